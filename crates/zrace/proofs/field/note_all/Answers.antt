use Rattle.std.proofs.Common.{ℕ, length, refl, sym, subst, ◌∙◌, ◌<◌, arith}
use Rattle.zrace.specs.Shown.{IsShownAmong}
use Rattle.zrace.specs.Seen.{IsSeenIn}
use Rattle.zrace.proofs.field.note_all.Goals as goal

pub loop-at-preserved : goal.loop-at-preserved
loop-at-preserved c = (
  c.note.ensures.nodes ∙ c.loop-at.invariant.0,
  (λ run reported all.
      let lt : c.loop-at.at < length c.args.seen.now.items = omega arith in
      c.note.ensures.reported run (c.loop-at.invariant.1 run reported all)
      (subst (λ (it : ℕ × ℕ). IsSeenIn run it.0 it.1) (sym c.index.ensures) (all c.loop-at.at c.index.result.now lt))),
  (λ cs recorded all.
      let lt : c.loop-at.at < length c.args.seen.now.items = omega arith in
      c.note.ensures.recorded cs (c.loop-at.invariant.2 cs recorded all)
      (subst (λ (it : ℕ × ℕ). IsShownAmong cs it.0 it.1) (sym c.index.ensures) (all c.loop-at.at c.index.result.now lt))),
  refl,
)
