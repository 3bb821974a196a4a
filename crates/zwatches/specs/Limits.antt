-- Laws of the limits: how many watches there are of all connections together, and of each. The
-- source is this project's profile.
use Rattle.std.specs.Prelude.{◌≡◌, ◌≢◌, ℕ, ◌≤◌, ◌+◌, ◌*◌, true, not, ◌&&◌, nat_le, List, ◌∷◌, length, if◌then◌else◌}
use Rattle.std.specs.FinSet.{contains, empty, insert, len}
use Rattle.zcalls.specs.Lists.{Among}
use Rattle.zjute.specs.declared.event.EventKind.{EventKind}
use Rattle.zjute.specs.declared.watch_type.WatchType.{WatchType}
use Rattle.zwatches.specs.declared.limits.WatchLimits.{WatchLimits}
use Rattle.zwatches.specs.declared.watch.Watch.{Watch}
use Rattle.zwatches.specs.Watches.{Path, Watches, is_full, share}
use Rattle.zwatches.specs.Events.{unfired, without}
use Rattle.zwatches.specs.Removal.{without_meant}

-- a table after a watch was asked for
abbrev pub with_watch : WatchLimits → Watches → Watch → Watches
with_watch limits table w = if is_full limits table w then table else insert table w

-- there are at most as many watches as one limit says, and of each connection as the other says
pub record IsWithin (limits : WatchLimits) (table : Watches) : Type 0 where
  pub all : len table ≤ limits.most
  pub shares : (connection : ℕ) → share table connection ≤ limits.each

-- a table begins within its limits, and stays there: when a watch is asked for, when watches fire,
-- when some are removed, and when a connection is forgotten
pub record KeepsLimits (limits : WatchLimits) : Type 0 where
  pub begins : IsWithin limits empty
  pub sets : (table : Watches) (w : Watch) → IsWithin limits table → IsWithin limits (with_watch limits table w)
  pub fires : (table : Watches) (event : EventKind) (path : Path) → IsWithin limits table → IsWithin limits (unfired table event path)
  pub removes : (table : Watches) (connection : ℕ) (type : WatchType) (path : Path) → IsWithin limits table
      → IsWithin limits (without_meant table connection type path)
  pub forgets : (table : Watches) (connection : ℕ) → IsWithin limits table → IsWithin limits (without table connection)

abbrev pub LimitsAreKept : Type 0
LimitsAreKept = (limits : WatchLimits) → KeepsLimits limits

-- all watches are of these connections
abbrev pub AreOf : List ℕ → Watches → Type 0
AreOf connections table = (w : Watch) → contains table w ≡ true → Among w.connection connections

-- A watch is asked for. Its connection, and each other that has watches, may have a whole share: there
-- is room for all of them. Then only its connection's own watches can be too many.
abbrev pub SharesAreApart : Type 0
SharesAreApart =
    (limits : WatchLimits) (table : Watches) (w : Watch) (others : List ℕ) → IsWithin limits table
    → AreOf (w.connection ∷ others) table → (1 + length others) * limits.each ≤ limits.most
    → is_full limits table w ≡ (not (contains table w) && nat_le limits.each (share table w.connection))

-- what another connection sets, removes and leaves behind does nothing to a connection's share
pub record LeavesShare (limits : WatchLimits) (table : Watches) (connection other : ℕ) : Type 0 where
  pub sets : (w : Watch) → w.connection ≡ other → share (with_watch limits table w) connection ≡ share table connection
  pub removes : (type : WatchType) (path : Path) → share (without_meant table other type path) connection ≡ share table connection
  pub forgets : share (without table other) connection ≡ share table connection

abbrev pub SharesLast : Type 0
SharesLast =
    (limits : WatchLimits) (table : Watches) (connection other : ℕ) → other ≢ connection → LeavesShare limits table connection other
