-- The events of watches (`WatcherEvent` of zookeeper.jute).
use Rattle.std.specs.Prelude.{ℤ, pos, ℕ, List, ◌++◌}
use Rattle.zjute.specs.declared.event.EventKind.{EventKind}
use Rattle.zjute.specs.declared.event.EventKind.TheVariants as kind
use Rattle.zjute.specs.declared.event.KeeperState.{KeeperState}
use Rattle.zjute.specs.declared.event.KeeperState.TheVariants as state
use Rattle.zjute.specs.declared.event.WatcherEvent.{WatcherEvent}
use Rattle.zjute.specs.declared.code.Code.TheVariants as code
use Rattle.zjute.specs.Jute.{neg, int, text}
use Rattle.zjute.specs.Replies.{header_text}

-- `Watcher.Event.EventType`
abbrev pub event_number : EventKind → ℤ
event_number kind.None = neg 1
event_number kind.NodeCreated = pos 1
event_number kind.NodeDeleted = pos 2
event_number kind.NodeDataChanged = pos 3
event_number kind.NodeChildrenChanged = pos 4
event_number kind.DataWatchRemoved = pos 5
event_number kind.ChildWatchRemoved = pos 6
event_number kind.PersistentWatchRemoved = pos 7

-- `Watcher.Event.KeeperState`
abbrev pub state_number : KeeperState → ℤ
state_number state.Disconnected = pos 0
state_number state.SyncConnected = pos 3
state_number state.AuthFailed = pos 4
state_number state.ConnectedReadOnly = pos 5
state_number state.SaslAuthenticated = pos 6
state_number state.Closed = pos 7
state_number state.Expired = neg 112

abbrev pub watcher_event : WatcherEvent → List ℕ
watcher_event e =
    int.spell (event_number e.kind) ++ (int.spell (state_number e.state) ++ text.spell e.path)

-- an event after its header, which has the xid -1
unfoldable pub event_text : ℤ → WatcherEvent → List ℕ
event_text zxid e = header_text (neg 1) zxid code.Ok ++ watcher_event e
