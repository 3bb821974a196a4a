-- The watches that an event fires, and the connections that it notifies. The source is the
-- ZooKeeper Programmer's Guide, sections "ZooKeeper Watches", "Semantics of Watches" and
-- "Persistent, Recursive Watches", and ZooKeeper 3.8 (`WatchManager.triggerWatch`).
use Rattle.std.specs.Prelude.{◌≡◌, ℕ, Bool, not, ◌&&◌, List, [], ◌∷◌, map, ◌==◌}
use Rattle.std.specs.declared.cmp.Ordering.{Ordering}
use Rattle.std.specs.List.{list_any}
use Rattle.std.specs.List.Sorted.{IsStrictlySortedBy}
use Rattle.std.specs.FinSet.{FinSet, items, from_list, retain}
use Rattle.std.specs.Ordering.{nat_cmp, is_eq}
use Rattle.zjute.specs.declared.event.EventKind.{EventKind}
use Rattle.zjute.specs.declared.event.EventKind.TheVariants.{NodeCreated, NodeDeleted, NodeDataChanged, NodeChildrenChanged}
use Rattle.zwatches.specs.declared.kind.Kind.TheVariants.{Data, Missing, Children, EachData, EachChildren, Recursive}
use Rattle.zwatches.specs.Watches.{Place}
use Rattle.zwatches.specs.declared.watch.Watch.{Watch}
use Rattle.zwatches.specs.Watches.{Path, Watches, fires_once, place, place_cmp, place_of}

-- the watch is at this position
abbrev pub is_at : Place → Watch → Bool
is_at at w = is_eq (place_cmp (place_of w) at)

-- the paths from the root down to this one
abbrev pub from_root : Path → List Path
from_root [] = [] ∷ []
from_root (name ∷ names) = [] ∷ map (λ path. name ∷ path) (from_root names)

-- the positions of the recursive watches that have this path in their subtree
abbrev pub above : Path → List Place
above path = map (λ p. place p Recursive) (from_root path)

-- the positions of the watches that an event at a path fires; a change of children fires no
-- recursive watch
abbrev pub fired_at : EventKind → Path → List Place
fired_at NodeCreated path =
    place path Data ∷ place path Missing ∷ place path EachData ∷ above path
fired_at NodeDataChanged path = place path Data ∷ place path EachData ∷ above path
fired_at NodeDeleted path =
    place path Data ∷ place path Children ∷ place path EachData ∷ place path EachChildren ∷ above path
fired_at NodeChildrenChanged path = place path Children ∷ place path EachChildren ∷ []
fired_at other path = []

-- the event fires the watch
abbrev pub fires : EventKind → Path → Watch → Bool
fires event path w = list_any (λ at. is_at at w) (fired_at event path)

-- some watch waits for the event
abbrev pub is_awaited : Watches → EventKind → Path → Bool
is_awaited table event path = list_any (fires event path) (items table)

-- the event removes the watch
abbrev pub ends : EventKind → Path → Watch → Bool
ends event path w = fires event path w && fires_once w.kind

-- the watches that remain
abbrev pub unfired : Watches → EventKind → Path → Watches
unfired table event path = retain table (λ w. not (ends event path w))

-- the connections of watches
abbrev pub connections : List Watch → FinSet nat_cmp
connections ws = from_list (map (λ w. w.connection) ws)

-- the connections to notify
abbrev pub reported : Watches → EventKind → Path → FinSet nat_cmp
reported table event path = connections (items (retain table (fires event path)))

-- the list has the elements of the set, each once, in rising order
pub record Lists {K : Type 0} {R : K → K → Ordering} (list : List K) (set : FinSet R) : Type 0 where
  pub rising : IsStrictlySortedBy R list
  pub same : from_list list ≡ set

-- the watches of other connections
abbrev pub without : Watches → ℕ → Watches
without table connection = retain table (λ w. not (w.connection == connection))
