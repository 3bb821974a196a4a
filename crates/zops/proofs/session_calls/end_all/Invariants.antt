use Rattle.std.proofs.Common.{◌≡◌, ◌+◌, ◌*◌}
use Rattle.ztree.specs.Sessions.{without_sessions}
use Rattle.zcalls.specs.declared.limits.TheConstants.{MAX_RAISES}
use Rattle.zcalls.proofs.Ends.{RoomForEnds, AreLive}
use Rattle.zops.specs.support.Ready.{KeepsLeft}
use Rattle.zops.proofs.session_calls.end_all.Given as goal

abbrev pub invariant-loop-id : goal.invariant-loop-id
invariant-loop-id l = record {
  did : without_sessions l.initial.store.tree l.fn.ids.items ≡ without_sessions l.store.tree l.id-iterator.rest.items;
  room : RoomForEnds (MAX_RAISES * l.initial.store.tree.zxid + MAX_RAISES) l.store.tree.nodes;
  zxid : l.store.tree.zxid ≡ l.initial.store.tree.zxid;
  live : AreLive l.store.tree.sessions l.id-iterator.rest.items;
  still : KeepsLeft l.initial.store l.store;
  given : l.store.given ≡ l.initial.store.given;
}
