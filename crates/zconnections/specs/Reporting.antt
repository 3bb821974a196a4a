-- Notifications: an event goes to each connection with a watch that it fires. The source is the
-- ZooKeeper Programmer's Guide, "ZooKeeper Watches", and zookeeper.jute (`WatcherEvent`).
use Rattle.std.specs.Prelude.{ℕ, List, [], ◌∷◌, map}
use Rattle.std.specs.FinMap.{from_entries, keys}
use Rattle.std.specs.FinSet.{FinSet, items}
use Rattle.std.specs.Ordering.{nat_cmp}
use Rattle.zpath.specs.Grammar.{text_of}
use Rattle.zjute.specs.Jute.{neg}
use Rattle.zjute.specs.Frames.{frame}
use Rattle.zjute.specs.Events.{event_text}
use Rattle.zjute.specs.declared.event.KeeperState.TheVariants.{SyncConnected}
use Rattle.zjute.specs.declared.event.WatcherEvent.{WatcherEvent}
use Rattle.zwatches.specs.declared.changes.event.Event.{Event}
use Rattle.zwatches.specs.Events as watch
use Rattle.zconnections.specs.Tables.{TablesView, sent}

-- the event as a client receives it
abbrev pub event_reported : Event → WatcherEvent
event_reported e = record { kind = e.kind; state = SyncConnected; path = text_of e.path }

-- and as a frame: its header has the zxid -1
abbrev pub event_frame : Event → List ℕ
event_frame e = frame (event_text (neg 1) (event_reported e))

-- the same bytes are queued for each of these connections
abbrev pub sent_on : List ℕ → List ℕ → TablesView → TablesView
sent_on [] bytes t = t
sent_on (c ∷ cs) bytes t = sent_on cs bytes (sent c bytes t)

-- the watches that an event fires are removed, except those that stay
abbrev pub unwatched : Event → TablesView → TablesView
unwatched e t = record t { watches = watch.unfired t.watches e.kind e.path }

-- numbers in rising order, each once
abbrev pub in_order : FinSet nat_cmp → List ℕ
in_order set = keys (from_entries {R = nat_cmp} (map (λ x. (x, tt {0})) (items set)))

-- and their connections are notified, each once
abbrev pub reported : Event → TablesView → TablesView
reported e t = sent_on (in_order (watch.reported t.watches e.kind e.path)) (event_frame e) (unwatched e t)

-- the same for events in order
abbrev pub reported_all : List Event → TablesView → TablesView
reported_all [] t = t
reported_all (e ∷ es) t = reported_all es (reported e t)
