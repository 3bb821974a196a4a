-- The table of watches: a set of watches, each of a connection, a kind and a path. The source is
-- the ZooKeeper Programmer's Guide, section "ZooKeeper Watches". The limits are this project's
-- profile.
use Rattle.std.specs.Prelude.{◌≡◌, ℕ, List, Bool, true, false, not, ◌&&◌, ◌||◌, ◌==◌, nat_le}
use Rattle.std.specs.FinSet.{FinSet, contains, len, retain}
use Rattle.std.specs.Ordering.{nat_cmp, ordering_then}
use Rattle.std.specs.declared.cmp.Ordering.{Ordering}
use Rattle.zpath.specs.Grammar.{path_cmp}
use Rattle.zwatches.specs.declared.fault.WatchFault.{WatchFault}
use Rattle.zwatches.specs.declared.fault.WatchFault.TheVariants.{Full, Memory}
use Rattle.zwatches.specs.declared.kind.Kind.{Kind}
use Rattle.zwatches.specs.declared.kind.Kind.TheVariants.{Data, Missing, Children, EachData, EachChildren, Recursive}
use Rattle.zwatches.specs.declared.limits.WatchLimits.{WatchLimits}
use Rattle.zwatches.specs.declared.watch.Watch.{Watch}

-- a path: its names from the root down
abbrev pub Path : Type 0
Path = List (List ℕ)

-- a watch of this kind is removed when it fires; any other stays (`WatcherMode.isPersistent`)
abbrev pub fires_once : Kind → Bool
fires_once Data = true
fires_once Missing = true
fires_once Children = true
fires_once EachData = false
fires_once EachChildren = false
fires_once Recursive = false

-- a watch from its parts
abbrev pub watch : Path → Kind → ℕ → Watch
watch path kind connection = record { path = path; kind = kind; connection = connection }

-- the order of the kinds
abbrev pub kind_number : Kind → ℕ
kind_number Data = 0
kind_number Missing = 1
kind_number Children = 2
kind_number EachData = 3
kind_number EachChildren = 4
kind_number Recursive = 5

-- a position of watches
pub record Place : Type 0 where
  pub path : Path
  pub kind : Kind

-- a position from its parts
abbrev pub place : Path → Kind → Place
place path kind = record { path = path; kind = kind }

-- positions in order: by path, then by kind
abbrev pub place_cmp : Place → Place → Ordering
place_cmp a b =
    ordering_then (path_cmp a.path b.path) (nat_cmp (kind_number a.kind) (kind_number b.kind))

-- the position of a watch
abbrev pub place_of : Watch → Place
place_of w = place w.path w.kind

-- watches in order: by path, by kind, then by connection
abbrev pub watch_cmp : Watch → Watch → Ordering
watch_cmp a b =
    ordering_then (place_cmp (place_of a) (place_of b)) (nat_cmp a.connection b.connection)

-- a table
abbrev pub Watches : Type 0
Watches = FinSet watch_cmp

-- how many watches a connection has
abbrev pub share : Watches → ℕ → ℕ
share table connection = len (retain table (λ w. w.connection == connection))

-- the watch isn't in the table, and there is no room for it: there are as many as one limit allows,
-- or as many of its connection as the other does
abbrev pub is_full : WatchLimits → Watches → Watch → Bool
is_full limits table w =
    not (contains table w) && (nat_le limits.most (len table) || nat_le limits.each (share table w.connection))

-- when each fault is returned: a full table is checked before memory is
abbrev pub IsSetFault : Bool → WatchFault → Type 0
IsSetFault full Full = full ≡ true
IsSetFault full Memory = full ≡ false
