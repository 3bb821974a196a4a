use Rattle.std.proofs.Common.{◌≡◌, true, sym, subst, ◌++◌, ◌∷◌, []}
use Rattle.zconnections.specs.Tables.{is_open}
use Rattle.zfront.specs.Reading.{Handles, HandlesIn}
use Rattle.zfront.proofs.Frames.{cuts_more, handles_more, shorter}
use Rattle.zfront.proofs.inner.Inner.read_frames.Goals as goal

pub loop-phase-smaller : goal.loop-phase-smaller
loop-phase-smaller g c = shorter c.loop-phase.rest.now c.in-Whole.frame.now c.in-Whole.more.now c.in-Whole.ensures

pub loop-phase-preserved : goal.loop-phase-preserved
loop-phase-preserved g c =
    let all = c.loop-phase.invariant in
    let frame = c.in-Whole.frame.now in
    let middle = c.loop-phase.self in
    let is_on : is_open middle.tables c.args.connection ≡ true = sym c.in-Some.ensures.open in
    let handled : Handles frame c.args.connection middle c.handle.new.self =
    subst (λ p. HandlesIn p frame c.args.connection middle c.handle.new.self) (sym c.in-Some.ensures.phase) c.in_ok-handle-in-Whole.ensures in (
      all.0 ++ frame ∷ [],
      cuts_more c.args.came.now all.0 c.loop-phase.rest.now frame c.in-Whole.more.now all.1 c.in-Whole.ensures,
      handles_more all.0 c.args.connection c.args.self.now middle frame c.handle.new.self all.2 is_on handled,
    )
