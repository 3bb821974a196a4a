use Rattle.std.proofs.Common.{◌≡◌, List, length}
use Rattle.ztree.specs.Tree.{Path}
use Rattle.ztree.specs.Lawful.{AllNodes}
use Rattle.ztree.specs.Room.{HasRoomForLosses}
use Rattle.ztree.specs.Sessions.{without_nodes}
use Rattle.zstore.specs.StoreView.{AreAt}
use Rattle.zops.specs.support.Ready.{CanRemove}
use Rattle.zops.proofs.session_calls.remove_all.Given as goal

abbrev pub invariant-loop-id : goal.invariant-loop-id
invariant-loop-id l = record {
  can : CanRemove l.store l.id-iterator.rest.items;
  did : (paths : List Path) → AreAt l.initial.store.places l.fn.ids.items paths → without_nodes l.initial.store.tree paths ≡ without_nodes l.store.tree can.paths;
  room : AllNodes (HasRoomForLosses (length l.id-iterator.rest.items)) l.store.tree.nodes;
  zxid : l.store.tree.zxid ≡ l.initial.store.tree.zxid;
  given : l.store.given ≡ l.initial.store.given;
}
