use Rattle.std.proofs.Common.{◌≡◌, [], ◌∷◌, length, refl, ap, sym, subst, ◌∙◌, arith}
use Rattle.std.specs.Prelude.{IsSome}
use Rattle.ztree.specs.Tree.{Tree, children}
use Rattle.ztree.specs.Lawful.{AllNodes}
use Rattle.ztree.specs.Room.{HasRoomForLosses}
use Rattle.ztree.specs.Sessions.{without_nodes}
use Rattle.ztree.proofs.Maps.{same_some}
use Rattle.ztree.proofs.StaleGone.{IsLeafBelow, CanAllGo, others-can_go}
use Rattle.zstore.specs.StoreView.{StoreView, Id, Ids, AreAt}
use Rattle.zstore.proofs.ids.Removing.{NamesFirst, names_first, no_ids, same_paths, others_named, room-dropped}
use Rattle.zops.specs.support.Ready.{CanRemove}
use Rattle.zops.proofs.session_calls.remove_all.Goals as goal

no_items : (ids : Ids) → length ids ≡ 0 → ids ≡ []
no_items [] e = refl
no_items (id ∷ ids) e = absurd (omega (arith, e))

-- the first of the Ids left, by its path
its : (h : StoreView) (left : Ids) (id : Id) (more : Ids) (can : CanRemove h left) → left ≡ id ∷ more → NamesFirst h.places id more can.paths
its h left id more can steps = names_first h.places id more can.paths (subst (λ ids. AreAt h.places ids can.paths) steps can.named)

can_all : (h : StoreView) (left : Ids) (can : CanRemove h left) → CanAllGo h.tree.nodes can.paths
can_all h left can = record { leaves = can.leaves; there = can.there; apart = can.apart }

-- it is a leaf below the root
leaf : (h : StoreView) (left : Ids) (id : Id) (more : Ids) (can : CanRemove h left) (steps : left ≡ id ∷ more) → IsLeafBelow h.tree.nodes (its h left id more can steps).first
leaf h left id more can steps = (subst (CanAllGo h.tree.nodes) (its h left id more can steps).both (can_all h left can)).leaves.0

pub loop-id-init : goal.loop-id-init
loop-id-init c =
    let h = c.args.store.now in
    let all = c.into_iter-id-iterator.ensures.into_iter_gives.0 in
    let named = c.requires.named in
    record {
      can = record {
        paths = named.paths;
        named = subst (λ (ids : Ids). AreAt h.places ids named.paths) (sym all) named.named;
        leaves = named.leaves;
        there = named.there;
        apart = named.apart;
      };
      did = λ paths at. ap (without_nodes h.tree) (same_paths h.places c.args.ids.items paths named.paths at named.named);
      room = subst (λ (ids : Ids). AllNodes (HasRoomForLosses (length ids)) h.tree.nodes) (sym all) c.requires.room;
      zxid = refl;
      given = refl;
    }

pub drop_leaf-requires-clause-live : goal.drop_leaf-requires-clause-live
drop_leaf-requires-clause-live c =
    let at = (its c.loop-id.store c.loop-id.id-iterator.rest.items c.in-Some.id c.next.new.self.rest.items c.loop-id.invariant.can c.in-Some.ensures.steps.0).at in
    subst IsSome (sym at) refl

pub drop_leaf-requires-clause-below_root : goal.drop_leaf-requires-clause-below_root
drop_leaf-requires-clause-below_root c path at root =
    let rest = c.loop-id.id-iterator.rest.items in
    let more = c.next.new.self.rest.items in
    let can = c.loop-id.invariant.can in
    let steps = c.in-Some.ensures.steps.0 in
    let first = its c.loop-id.store rest c.in-Some.id more can steps in
    (leaf c.loop-id.store rest c.in-Some.id more can steps).0 (same_some first.first path (sym first.at ∙ at) ∙ root)

pub drop_leaf-requires-clause-leaf : goal.drop_leaf-requires-clause-leaf
drop_leaf-requires-clause-leaf c path at =
    let rest = c.loop-id.id-iterator.rest.items in
    let more = c.next.new.self.rest.items in
    let can = c.loop-id.invariant.can in
    let steps = c.in-Some.ensures.steps.0 in
    let first = its c.loop-id.store rest c.in-Some.id more can steps in
    ap (children c.loop-id.store.tree.nodes) (sym (same_some first.first path (sym first.at ∙ at)))
    ∙ (leaf c.loop-id.store rest c.in-Some.id more can steps).1

pub drop_leaf-requires-clause-counters : goal.drop_leaf-requires-clause-counters
drop_leaf-requires-clause-counters c path at n found =
    let room =
    subst (λ (ids : Ids). AllNodes (HasRoomForLosses (length ids)) c.loop-id.store.tree.nodes) c.in-Some.ensures.steps.0
    c.loop-id.invariant.room _ n found in
    omega (arith, room)

pub drop_leaf-requires-clause-zxid : goal.drop_leaf-requires-clause-zxid
drop_leaf-requires-clause-zxid c = rw c.loop-id.invariant.zxid c.requires.zxid

pub loop-id-preserved : goal.loop-id-preserved
loop-id-preserved c =
    let here = c.loop-id.invariant in
    let h = c.loop-id.store in
    let id = c.in-Some.id in
    let more = c.next.new.self.rest.items in
    let steps = c.in-Some.ensures.steps.0 in
    let first = its h c.loop-id.id-iterator.rest.items id more here.can steps in
    let now = c.drop_leaf.ensures.tree first.first first.at in
    let places = c.drop_leaf.ensures.forgotten in
    let whole = subst (CanAllGo h.tree.nodes) first.both (can_all h c.loop-id.id-iterator.rest.items here.can) in
    let left = subst (λ (u : Tree). CanAllGo u.nodes first.others) (sym now) (others-can_go h.tree first.first first.others whole) in
    record {
      can = record {
        paths = first.others;
        named = subst (λ p. AreAt p more first.others) (sym places) (others_named h.places id first.first first.at more first.others whole.apart.0 first.rest);
        leaves = left.leaves;
        there = left.there;
        apart = left.apart;
      };
      did = λ paths at. here.did paths at ∙ ap (without_nodes h.tree) first.both ∙ ap (λ u. without_nodes u first.others) (sym now);
      room = subst (λ (u : Tree). AllNodes (HasRoomForLosses (length more)) u.nodes) (sym now)
          (room-dropped h.tree first.first more id (subst (λ (ids : Ids). AllNodes (HasRoomForLosses (length ids)) h.tree.nodes) steps here.room));
      zxid = ap (λ (u : Tree). u.zxid) now ∙ here.zxid;
      given = c.drop_leaf.ensures.given ∙ here.given;
    }

-- no Ids are left, so no paths are
pub returns-clause-tree : goal.returns-clause-tree
returns-clause-tree c paths at =
    let here = c.loop-id.invariant in
    let none = no_items c.loop-id.id-iterator.rest.items (sym c.loop-id.id-iterator.rest.ok.0 ∙ c.in-None.ensures.steps.0) in
    let left = no_ids c.loop-id.store.places here.can.paths (subst (λ (ids : Ids). AreAt c.loop-id.store.places ids here.can.paths) none here.can.named) in
    sym (here.did paths at ∙ ap (without_nodes c.loop-id.store.tree) left)
