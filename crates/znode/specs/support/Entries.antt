-- The steps in which a node plays an entry.
use Rattle.std.specs.Prelude.{◌≡◌}
use Rattle.zmaster_log.specs.declared.entry.LogEntry.{LogEntry}
use Rattle.zmaster_log.specs.Log.{after_entry, entry_played, order_for}
use Rattle.zpeers.specs.Records.{TreeTransfer}
use Rattle.znode.specs.Node.{NodeView}
use Rattle.znode.specs.Entries.{HearsOrder}

-- the replica plays the entry, and the server handles the order that it has for it
pub record Obeys (e : LogEntry) (v w : NodeView) : Type 0 where
  pub replica : w.replica ≡ after_entry v.replica (entry_played {T = TreeTransfer} v.replica.state e).0
  pub order : HearsOrder v.replica.own (order_for v.replica.own (entry_played v.replica.state e).1) v.seat w.seat
  pub rest : w ≡ record v { replica = w.replica; seat = w.seat }
