-- Laws of the events, and of removal.
use Rattle.std.specs.Prelude.{◌≡◌, ◌≢◌, ◌↔◌, ℕ, Bool, true, false, ◌&&◌, [], ◌∷◌}
use Rattle.std.specs.FinSet.{contains}
use Rattle.std.specs.Str.{bytes_eq}
use Rattle.zjute.specs.declared.event.EventKind.{EventKind}
use Rattle.zjute.specs.declared.event.EventKind.TheVariants.{NodeCreated, NodeDeleted, NodeDataChanged}
use Rattle.zjute.specs.declared.watch_type.WatchType.{WatchType}
use Rattle.zwatches.specs.declared.kind.Kind.TheVariants.{Recursive}
use Rattle.zwatches.specs.declared.watch.Watch.{Watch}
use Rattle.zwatches.specs.Watches.{Path, Watches, fires_once, watch}
use Rattle.zwatches.specs.Events.{fires, reported, unfired}
use Rattle.zwatches.specs.Removal.{is_meant, without_meant}

-- this watch of the table fires, and belongs to the connection
abbrev pub IsFired : Watches → EventKind → Path → ℕ → Watch → Type 0
IsFired table event path connection w =
    (contains table w ≡ true) × (fires event path w ≡ true) × (w.connection ≡ connection)

-- a connection is notified if and only if one of its watches fires
abbrev pub ReportsWhoWaits : Type 0
ReportsWhoWaits =
    (table : Watches) (event : EventKind) (path : Path) (connection : ℕ) →
    (contains (reported table event path) connection ≡ true)
    ↔ ((w : Watch) × IsFired table event path connection w)

-- a watch that waits for one change remains if and only if it doesn't fire
abbrev pub FiresOnce : Type 0
FiresOnce =
    (table : Watches) (event : EventKind) (path : Path) (w : Watch) → fires_once w.kind ≡ true →
    (contains (unfired table event path) w ≡ true)
    ↔ ((contains table w ≡ true) × (fires event path w ≡ false))

-- any other watch remains
abbrev pub FiresEachTime : Type 0
FiresEachTime =
    (table : Watches) (event : EventKind) (path : Path) (w : Watch) → fires_once w.kind ≡ false →
    (contains (unfired table event path) w ≡ true) ↔ (contains table w ≡ true)

-- the second path is the first, or below it
abbrev pub is_below : Path → Path → Bool
is_below [] path = true
is_below (name ∷ top) [] = false
is_below (name ∷ top) (other ∷ path) = bytes_eq name other && is_below top path

-- the event is of a node's data or existence
abbrev pub is_of_data : EventKind → Bool
is_of_data NodeCreated = true
is_of_data NodeDeleted = true
is_of_data NodeDataChanged = true
is_of_data other = false

-- a recursive watch waits for these events of its node and of those below it, and for no other
abbrev pub CoversBelow : Type 0
CoversBelow =
    (event : EventKind) (top path : Path) (connection : ℕ) →
    fires event path (watch top Recursive connection) ≡ (is_of_data event && is_below top path)

-- a request removes a watch if and only if it means it; so never one of another connection
abbrev pub RemovesOwn : Type 0
RemovesOwn =
    (table : Watches) (connection : ℕ) (type : WatchType) (path : Path) (w : Watch) →
    ((contains (without_meant table connection type path) w ≡ true)
    ↔ ((contains table w ≡ true) × (is_meant connection type path w ≡ false)))
    × (w.connection ≢ connection → contains table w ≡ true → contains (without_meant table connection type path) w ≡ true)
