use Rattle.std.proofs.Common.{◌≡◌, ◌≢◌, [], length, sym, ap, subst, ◌∙◌, arith}
use Rattle.std.specs.FinMap as finite
use Rattle.ztree.specs.Tree.{Tree, parent_of, children, ephemerals}
use Rattle.ztree.proofs.Maps.{same_some}
use Rattle.ztree.proofs.Ephemerals.{owned_is_leaf, owned_is_below}
use Rattle.ztree.proofs.LawfulEnd.{live_above}
use Rattle.zstore.proofs.ids.UnderWay.{under_way_next}
use Rattle.zstore.proofs.order.Any.{any_first}
use Rattle.zstore.proofs.store.Store.end_session.Goals as goal

pub drop_leaf-requires-clause-below_root : goal.drop_leaf-requires-clause-below_root
drop_leaf-requires-clause-below_root c = λ path named.
    let owned = c.in-Some.ensures.found in
    let above = live_above c.args.self.now.tree c.args.id c.keeps_lawful.ensures c.requires.live in
    let is = owned.4 in
    let below =
    owned_is_below c.loop-ephemeral.self.tree owned.0 owned.2 c.in-Some.ensures.lawful owned.3
    (λ nobody. omega (arith, above, is, nobody)) in
    subst (λ p. p ≢ []) (sym (same_some path owned.0 (sym named ∙ owned.1))) below

pub drop_leaf-requires-clause-leaf : goal.drop_leaf-requires-clause-leaf
drop_leaf-requires-clause-leaf c = λ path named.
    let owned = c.in-Some.ensures.found in
    let above = live_above c.args.self.now.tree c.args.id c.keeps_lawful.ensures c.requires.live in
    let is = owned.4 in
    let leaf =
    owned_is_leaf c.loop-ephemeral.self.tree owned.0 owned.2 c.in-Some.ensures.lawful owned.3
    (λ nobody. omega (arith, above, is, nobody)) in
    subst (λ p. children c.loop-ephemeral.self.tree.nodes p ≡ [])
    (sym (same_some path owned.0 (sym named ∙ owned.1))) leaf

pub drop_leaf-requires-clause-counters : goal.drop_leaf-requires-clause-counters
drop_leaf-requires-clause-counters c = λ path named n is.
    let owned = c.in-Some.ensures.found in
    let t = c.loop-ephemeral.self.tree in
    let here : path ≡ owned.0 = same_some path owned.0 (sym named ∙ owned.1) in
    let room =
    c.loop-ephemeral.invariant.counters owned.0 owned.2 owned.3 owned.4 n
    (ap (λ p. finite.get t.nodes (parent_of p)) (sym here) ∙ is) in
    let some = (any_first t c.args.id owned.0 owned.2 owned.3 owned.4).1 in
    omega (arith, room, some)

pub loop-ephemeral-smaller : goal.loop-ephemeral-smaller
loop-ephemeral-smaller c =
    let owned = c.in-Some.ensures.found in
    let id = c.args.id in
    let t = c.loop-ephemeral.self.tree in
    let left =
    ap (λ (t : Tree). length (ephemerals t.nodes id)) (c.drop_leaf.ensures.tree owned.0 owned.1)
    in
    let fewer = (any_first t id owned.0 owned.2 owned.3 owned.4).1 in
    omega (arith, left, fewer)

pub loop-ephemeral-preserved : goal.loop-ephemeral-preserved
loop-ephemeral-preserved c =
    let owned = c.in-Some.ensures.found in
    under_way_next c.args.self.now c.loop-ephemeral.self c.drop_leaf.new.self c.args.id
    c.loop-ephemeral.invariant owned.0 owned.2 owned.3 owned.4
    (c.drop_leaf.ensures.tree owned.0 owned.1) c.drop_leaf.ensures.gone
    c.drop_leaf.ensures.given
