use Rattle.std.proofs.Common.{[], ◌∷◌, ◌++◌, sym, subst, arith}
use Rattle.zslots.specs.support.Walk.{IsWalk}
use Rattle.zslots.specs.Ids.{Ids}
use Rattle.zslots.proofs.ListMoves.{list-one}
use Rattle.zslots.proofs.Walks.{walk-starts, walk-step, walk-ends}
use Rattle.znodes.specs.support.Rows.{fellow_links}
use Rattle.znodes.proofs.paths.owned_ids.Goals as goal

pub loop-at-init : goal.loop-at-init
loop-at-init c =
    let m = c.args.slots.now.items in
    let start = walk-starts fellow_links m c.args.list c.requires.0 c.requires.1 in
    subst (λ (found : Ids). IsWalk fellow_links m c.args.list found c.first-at.result) (sym c.in_ok-found.ensures.items)
    (subst (IsWalk fellow_links m c.args.list []) (sym c.first-at.ensures) start.0)

pub loop-at-preserved : goal.loop-at-preserved
loop-at-preserved c =
    let m = c.args.slots.now.items in
    let id = c.in-Some.id in
    let passed = c.loop-at.found.items in
    let at = subst (IsWalk fellow_links m c.args.list passed) c.in-Some.is c.loop-at.invariant in
    subst (λ (found : Ids). IsWalk fellow_links m c.args.list found c.next-at.result) (sym c.in_ok-push.ensures.items)
    (subst (IsWalk fellow_links m c.args.list (passed ++ id ∷ [])) (sym c.next-at.ensures.own) (walk-step fellow_links m c.args.list passed id at).0)

pub loop-at-smaller : goal.loop-at-smaller
loop-at-smaller c =
    let m = c.args.slots.now.items in
    let passed = c.loop-at.found.items in
    let at = subst (IsWalk fellow_links m c.args.list passed) c.in-Some.is c.loop-at.invariant in
    rw (c.in-Some.is, c.next-at.ensures.own, (walk-step fellow_links m c.args.list passed c.in-Some.id at).1) (omega arith)

pub returns : goal.returns
returns c = λ ids is.
    let m = c.args.slots.now.items in
    let passed = c.loop-at.found.items in
    let all = walk-ends fellow_links m c.args.list passed (subst (IsWalk fellow_links m c.args.list passed) c.in_default.is c.loop-at.invariant) in
    list-one fellow_links m c.args.list passed ids all is
