use Rattle.std.proofs.Common.{[], ◌∷◌, ◌++◌, sym, ap, subst, ◌∙◌, arith}
use Rattle.std.proofs.lemmas.List.Elements.{filter_map-append}
use Rattle.std.specs.Prelude.{None, Some, if◌then◌else◌}
use Rattle.zslots.specs.Ids.{Ids}
use Rattle.zslots.specs.support.Walk.{IsWalk}
use Rattle.zslots.proofs.ListMoves.{list-one}
use Rattle.zslots.proofs.Walks.{walk-starts, walk-step, walk-ends}
use Rattle.znodes.specs.support.Rows.{timed_links}
use Rattle.znodes.specs.support.Reading.{is_stale_row, stale_of}
use Rattle.znodes.proofs.stale.stale_in.Goals as goal

pub loop-at-init : goal.loop-at-init
loop-at-init c =
    let start = walk-starts timed_links c.args.slots.now.items c.args.list c.requires.0 c.requires.1 in
    ([], subst (IsWalk timed_links c.args.slots.now.items c.args.list []) (sym c.first-at.ensures) start.0, c.new-stale.ensures.items)

pub loop-at-preserved : goal.loop-at-preserved
loop-at-preserved c =
    let m = c.args.slots.now.items in
    let id = c.in-Some.id in
    let passed = c.loop-at.invariant.0 in
    let at = subst (IsWalk timed_links m c.args.list passed) c.in-Some.is c.loop-at.invariant.1 in (
      passed ++ id ∷ [],
      subst (IsWalk timed_links m c.args.list (passed ++ id ∷ [])) (sym c.next-at.ensures.own) (walk-step timed_links m c.args.list passed id at).0,
      c.in_ok-push_stale.ensures ∙ ap (λ (found : Ids). found ++ stale_of m c.args.tick (id ∷ [])) c.loop-at.invariant.2
          ∙ sym (filter_map-append (λ i. if is_stale_row m c.args.tick i then Some i else None) passed (id ∷ [])),
    )

pub loop-at-smaller : goal.loop-at-smaller
loop-at-smaller c =
    let m = c.args.slots.now.items in
    let passed = c.loop-at.invariant.0 in
    let at = subst (IsWalk timed_links m c.args.list passed) c.in-Some.is c.loop-at.invariant.1 in
    rw (c.in-Some.is, c.next-at.ensures.own, (walk-step timed_links m c.args.list passed c.in-Some.id at).1) (omega arith)

pub returns : goal.returns
returns c = λ ids is.
    let m = c.args.slots.now.items in
    let passed = c.loop-at.invariant.0 in
    let all = walk-ends timed_links m c.args.list passed (subst (IsWalk timed_links m c.args.list passed) c.in_default.is c.loop-at.invariant.1) in
    c.loop-at.invariant.2 ∙ ap (stale_of m c.args.tick) (list-one timed_links m c.args.list passed ids all is)
