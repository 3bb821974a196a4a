use Rattle.std.proofs.Common.{◌≡◌, ◌+◌, ◌++◌, ◌∷◌, [], length, length-append, sym, refl, ap, ◌∙◌, subst, append_assoc, arith}
use Rattle.std.specs.Slots.{slots_items}
use Rattle.zchannels.specs.Given.{EachOnce, times}
use Rattle.zchannels.specs.Passes.{tickets_of, tickets_of_all}
use Rattle.zchannels.proofs.Fair.{merges, all_snoc, all_of, all_front, all_last, no_passes, closes}
use Rattle.zchannels.proofs.tickets.Tickets.close.Goals as goal

pub loop-pass-init : goal.loop-pass-init
loop-pass-init c =
    let e = c.in-Some.ensures.items in
    let t = c.args.self.table.shared.table_id in
    let last = c.in-Some.last in
    let rest = c.pop.new.self.items in
    let own = all_last t rest last (subst (λ ps. all_of t ps) e c.requires) in (
      own,
      refl,
      refl,
      all_front t rest last (subst (λ ps. all_of t ps) e c.requires),
      (let h = last.one in let n = c.if-len-n.false in let m = c.len.ensures in omega (arith, ap length e, length-append rest (last ∷ []))),
      sym (ap tickets_of_all e ∙ all_snoc rest last),
    )

pub join_seat-requires : goal.join_seat-requires
join_seat-requires c =
    let i = c.loop-pass.invariant in
    let t = c.args.self.table.shared.table_id in
    let e = c.in-Some-pop.ensures.items in
    let pass = c.in-Some-pop.pass in
    let rest = c.pop-in-loop-pass.new.self.items in (
      i.0,
      all_last t rest pass (subst (λ ps. all_of t ps) e i.3),
      pass.free,
      (let h = c.args.self.one_word in omega arith),
      merges c.args.self.table.shared.key c.loop-pass.all.id c.loop-pass.all.me.0 pass.seat.id pass.seat.me.0,
    )

pub loop-pass-preserved : goal.loop-pass-preserved
loop-pass-preserved c =
    let i = c.loop-pass.invariant in
    let t = c.args.self.table.shared.table_id in
    let e = c.in-Some-pop.ensures.items in
    let pass = c.in-Some-pop.pass in
    let rest = c.pop-in-loop-pass.new.self.items in
    let j = c.join_seat.ensures in
    let me = c.join_seat.new.seat.me.0 in
    let parts : me.parts ≡ c.loop-pass.all.me.0.parts + pass.seat.me.0.parts = ap (λ m. m.0.parts) j.2 in
    let drawn : me.drawn ≡ pass.seat.me.0.drawn ++ c.loop-pass.all.me.0.drawn = ap (λ m. m.0.drawn) j.2 in (
      j.0 ∙ i.0,
      refl,
      refl,
      all_front t rest pass (subst (λ ps. all_of t ps) e i.3),
      (let h = pass.one in let n = i.4 in omega (arith, parts, ap length e, length-append rest (pass ∷ []))),
      ap (λ d. tickets_of_all rest ++ d) drawn
          ∙ sym (append_assoc (tickets_of_all rest) (tickets_of pass) c.loop-pass.all.me.0.drawn)
          ∙ ap (λ d. d ++ c.loop-pass.all.me.0.drawn) (sym (all_snoc rest pass))
          ∙ ap (λ d. tickets_of_all d ++ c.loop-pass.all.me.0.drawn) (sym e)
          ∙ i.5,
    )

pub returns-clause-each : goal.returns-clause-each
returns-clause-each c =
    let i = c.loop-pass.invariant in
    let v = c.close_with-closed.ensures.values in
    let ps = c.loop-pass.passes.items in
    let all = c.loop-pass.all in
    let none : ps ≡ [] = no_passes ps (let z = c.in_default-pop.ensures.cases.0 in let k = c.loop-pass.passes.ok in omega arith) in
    let drawn : all.me.0.drawn ≡ tickets_of_all c.args.passes.items = sym (ap (λ qs. tickets_of_all qs ++ all.me.0.drawn) none) ∙ i.5 in
    let key = c.args.self.key in
    let parts : all.me.0.parts ≡ c.args.self.table.shared.key = let n = i.4 in omega (arith, ap length none) in
    subst (λ d. EachOnce c.word-word.result (λ x. times x d)) drawn
    (closes c.args.self.table.shared.key all.id all.me.0 (slots_items c.close_with-closed.result.words) (slots_items c.close_with-closed.result.slots) c.word-word.result v.2 parts c.word-word.ensures)
