use Rattle.std.proofs.Common.{[], ◌∷◌, ◌++◌, List, sym, ap, subst, ◌∙◌, arith}
use Rattle.std.proofs.lemmas.List.Elements.{filter_map-append}
use Rattle.zslots.specs.support.Walk.{IsWalk}
use Rattle.zslots.proofs.ListMoves.{list-one}
use Rattle.zslots.proofs.Walks.{walk-starts, walk-step, walk-ends}
use Rattle.ztree.specs.Tree.{Name}
use Rattle.znodes.specs.support.Rows.{sibling_links}
use Rattle.znodes.specs.support.Reading.{name_at, names_at}
use Rattle.znodes.proofs.children.last_names.Goals as goal

pub loop-at-init : goal.loop-at-init
loop-at-init c =
    let start = walk-starts sibling_links c.args.slots.now.items c.args.list c.requires.0 c.requires.1 in
    ([], subst (IsWalk sibling_links c.args.slots.now.items c.args.list []) (sym c.first-at.ensures) start.0, c.in_ok-names.ensures.items)

pub loop-at-preserved : goal.loop-at-preserved
loop-at-preserved c =
    let m = c.args.slots.now.items in
    let id = c.in-Some.id in
    let passed = c.loop-at.invariant.0 in
    let at = subst (IsWalk sibling_links m c.args.list passed) c.in-Some.is c.loop-at.invariant.1 in (
      passed ++ id ∷ [],
      subst (IsWalk sibling_links m c.args.list (passed ++ id ∷ [])) (sym c.next-at.ensures.own) (walk-step sibling_links m c.args.list passed id at).0,
      c.in_ok-push_name.ensures ∙ ap (λ (names : List Name). names ++ names_at m (id ∷ [])) c.loop-at.invariant.2
          ∙ sym (filter_map-append (name_at m) passed (id ∷ [])),
    )

pub loop-at-smaller : goal.loop-at-smaller
loop-at-smaller c =
    let m = c.args.slots.now.items in
    let passed = c.loop-at.invariant.0 in
    let at = subst (IsWalk sibling_links m c.args.list passed) c.in-Some.is c.loop-at.invariant.1 in
    rw (c.in-Some.is, c.next-at.ensures.own, (walk-step sibling_links m c.args.list passed c.in-Some.id at).1) (omega arith)

pub returns : goal.returns
returns c = λ ids is.
    let m = c.args.slots.now.items in
    let passed = c.loop-at.invariant.0 in
    let all = walk-ends sibling_links m c.args.list passed (subst (IsWalk sibling_links m c.args.list passed) c.in_default.is c.loop-at.invariant.1) in
    c.loop-at.invariant.2 ∙ ap (names_at m) (list-one sibling_links m c.args.list passed ids all is)
