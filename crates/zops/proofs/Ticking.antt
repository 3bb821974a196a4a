-- What a tick removes: the nodes that were stale before it, once the sessions have ended.
use Rattle.std.proofs.Common.{◌≡◌, ◌+◌, ◌*◌, ◌<◌, ℕ, true, List, length, sym, ap, subst, ◌∙◌, arith}
use Rattle.std.specs.List.{AllByRecursion}
use Rattle.zpath.specs.Grammar.{path_cmp}
use Rattle.ztree.specs.Tree.{Tree, Path, Nodes, has_node}
use Rattle.ztree.specs.Sessions.{without_nodes, without_sessions, due_sessions}
use Rattle.ztree.specs.Stale.{is_stale, stale_nodes}
use Rattle.ztree.specs.Lawful.{IsLawful, AllNodes}
use Rattle.ztree.specs.Laws.{has_path, NoneTwice}
use Rattle.ztree.specs.Room.{HasRoomForLosses}
use Rattle.ztree.proofs.Sorted.{paths_total, same_path}
use Rattle.ztree.proofs.Among.{apart_where}
use Rattle.ztree.proofs.Listed.{lists_stale}
use Rattle.ztree.proofs.StaleGone.{IsLeafBelow, CanAllGo, stale-can_go}
use Rattle.zstore.specs.StoreView.{StoreView, Ids, AreAt, AreStale}
use Rattle.zstore.proofs.ids.Removing.{count_paths, still_named, all_alike}
use Rattle.zstore.proofs.order.All.{in_any_order}
use Rattle.zcalls.proofs.Ends.{RoomForEnds, few-leaves, room_before, all_ended-room}
use Rattle.zcalls.specs.declared.limits.TheConstants.{MAX_RAISES}
use Rattle.zcalls.specs.Bounds.{IsBounded}
use Rattle.zcalls.specs.Step.{due_next, stale_next}
use Rattle.zcalls.proofs.Timed.{few_nodes}
use Rattle.ztree.proofs.LawfulEnd.{due_above}
use Rattle.zops.specs.support.Ready.{KeepsLeft, CanRemove}

can_alike : (nodes : Nodes) (ps qs : List Path) → ((q : Path) → has_path ps q ≡ has_path qs q) → NoneTwice path_cmp ps → CanAllGo nodes qs → CanAllGo nodes ps
can_alike nodes ps qs same once can =
    record {
      leaves = all_alike (IsLeafBelow nodes) ps qs same can.leaves;
      there = all_alike (λ q. has_node nodes q ≡ true) ps qs same can.there;
      apart = once;
    }

module _ (h mid : StoreView) (tick : ℕ) (ids : Ids) (due : List ℕ) (lawful : IsLawful h.tree) (above : AllByRecursion (λ id. 0 < id) due)
    (stale : AreStale h.tree.nodes h.places tick ids) (tree : mid.tree ≡ without_sessions h.tree due) (still : KeepsLeft h mid) where
  same : (q : Path) → has_path stale.paths q ≡ has_path (stale_nodes h.tree.nodes tick) q
  same q = stale.each q ∙ sym (lists_stale h.tree.nodes tick q)

  pub can_all : CanAllGo mid.tree.nodes stale.paths
  can_all =
      subst (λ (u : Tree). CanAllGo u.nodes stale.paths) (sym tree)
      (can_alike (without_sessions h.tree due).nodes stale.paths (stale_nodes h.tree.nodes tick) same stale.once (stale-can_go h.tree tick due lawful above))

  -- the Ids name them still, and they can go
  pub can_remove : CanRemove mid ids
  can_remove =
      record {
        paths = stale.paths;
        named = still_named h.places mid.places mid.tree.nodes still ids stale.paths can_all.there stale.named;
        leaves = can_all.leaves;
        there = can_all.there;
        apart = stale.once;
      }

  either_order : (without_nodes mid.tree stale.paths ≡ without_nodes mid.tree (stale_nodes h.tree.nodes tick)) × (length stale.paths ≡ length (stale_nodes h.tree.nodes tick))
  either_order =
      in_any_order stale.paths (stale_nodes h.tree.nodes tick) mid.tree stale.once (apart_where paths_total same_path (is_stale h.tree.nodes tick) h.tree.nodes) same

  -- what is left once they went
  pub removed-tree : without_nodes mid.tree stale.paths ≡ without_nodes (without_sessions h.tree due) (stale_nodes h.tree.nodes tick)
  removed-tree = either_order.0 ∙ ap (λ u. without_nodes u (stale_nodes h.tree.nodes tick)) tree

  pub removed-count : length ids ≡ length (stale_nodes h.tree.nodes tick)
  removed-count = count_paths h.places ids stale.paths stale.named ∙ either_order.1

  -- each node can lose as many
  pub removed-room : (raises : ℕ) → raises + 1 < 4611686018427387904 → RoomForEnds raises (without_sessions h.tree due).nodes → AllNodes (HasRoomForLosses (length ids)) mid.tree.nodes
  removed-room raises small room q n found =
      let here = (subst (λ (u : Tree). RoomForEnds raises u.nodes) (sym tree) room q n found).cversion in
      let few = few-leaves stale.paths mid.tree can_all in
      let count = count_paths h.places ids stale.paths stale.named in
      omega (arith, here, few, count, small)

-- what is known of a tick once its sessions have ended
pub record IsTicking (h mid : StoreView) (due : List ℕ) (ids : Ids) : Type 0 where
  pub due_is : due ≡ due_next h.tree
  pub can : CanRemove mid ids
  pub count : length ids ≡ length (stale_next h.tree)
  pub room : IsBounded h.tree → h.tree.zxid + 1 < 1099511627776 → AllNodes (HasRoomForLosses (length ids)) mid.tree.nodes
  pub gone : (left : StoreView) → ((paths : List Path) → AreAt mid.places ids paths → left.tree ≡ without_nodes mid.tree paths) → left.tree ≡ without_nodes (without_sessions h.tree (due_next h.tree)) (stale_next h.tree)
  pub all : CanAllGo (without_sessions h.tree (due_next h.tree)).nodes (stale_next h.tree)

pub ticking : (h mid : StoreView) (now : ℕ) (due : List ℕ) (ids : Ids) → IsLawful h.tree → now ≡ h.tree.time → due ≡ due_sessions h.tree.sessions (now + 1) → AreStale h.tree.nodes h.places (now + 1) ids → mid.tree ≡ without_sessions h.tree due → KeepsLeft h mid → IsTicking h mid due ids
unfolding can_remove
ticking h mid now due ids lawful at due_now stale_now ended still =
    let t = h.tree in
    let due_is : due ≡ due_next t = due_now ∙ ap (λ now. due_sessions t.sessions (now + 1)) at in
    let stale = subst (λ now. AreStale t.nodes h.places (now + 1) ids) at stale_now in
    let tree = ended ∙ ap (without_sessions t) due_is in
    let above = due_above t (t.time + 1) lawful in
    record {
      due_is = due_is;
      can = can_remove h mid (t.time + 1) ids (due_next t) lawful above stale tree still;
      count = removed-count h mid (t.time + 1) ids (due_next t) lawful above stale tree still;
      room = λ bounded small.
          removed-room h mid (t.time + 1) ids (due_next t) lawful above stale tree still (MAX_RAISES * t.zxid + MAX_RAISES) (omega (arith, small))
          (all_ended-room (MAX_RAISES * t.zxid + MAX_RAISES) (due_next t) t (room_before (MAX_RAISES * t.zxid) t.nodes bounded.counters (few_nodes t lawful)));
      gone = λ left removed.
          removed stale.paths (can_remove h mid (t.time + 1) ids (due_next t) lawful above stale tree still).named
          ∙ removed-tree h mid (t.time + 1) ids (due_next t) lawful above stale tree still;
      all = stale-can_go t (t.time + 1) (due_next t) lawful above;
    }
