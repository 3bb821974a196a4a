-- The watches at positions.
use Rattle.std.specs.Prelude.{◌≡◌, ℕ, Bool, not, ◌&&◌, ◌||◌, List, [], ◌∷◌, ◌++◌, map}
use Rattle.std.specs.List.{filter, list_any}
use Rattle.std.specs.FinSet.{contains, from_list}
use Rattle.std.specs.Ordering.{eq_by_cmp, nat_cmp}
use Rattle.zjute.specs.declared.event.EventKind.{EventKind}
use Rattle.zjute.specs.declared.event.EventKind.TheVariants.{NodeCreated, NodeDeleted, NodeDataChanged, NodeChildrenChanged}
use Rattle.zwatches.specs.declared.kind.Kind.TheVariants.{Data, Missing, Children}
use Rattle.zwatches.specs.declared.watch.Watch.{Watch}
use Rattle.zwatches.specs.Watches.{Path, Place, Watches, place, watch}
use Rattle.zwatches.specs.Events.{is_at}

-- the table that a list represents
abbrev pub set_of : List Watch → Watches
set_of watches = from_list watches

-- the connections of the watches at each position, one position after the other
abbrev pub reported_by : List Watch → List Place → List ℕ
reported_by watches [] = []
reported_by watches (at ∷ places) =
    map (λ w. w.connection) (filter (is_at at) watches) ++ reported_by watches places

-- the number is in the list
abbrev pub among : List ℕ → ℕ → Bool
among numbers q = list_any (eq_by_cmp nat_cmp q) numbers

-- the connection has a watch at one of the positions
abbrev pub waits_at : Watches → List Place → ℕ → Bool
waits_at table places connection =
    list_any (λ at. contains table (watch at.path at.kind connection)) places

-- to a list of connections those are added that wait at one of the positions
abbrev pub AddsWaiting : Watches → List ℕ → List ℕ → List Place → Type 0
AddsWaiting table old new places = (q : ℕ) → among new q ≡ (among old q || waits_at table places q)

-- a watch of the list is at one of the positions
abbrev pub found_by : List Watch → List Place → Bool
found_by watches places = list_any (λ at. list_any (is_at at) watches) places

-- the watch isn't at one of the positions, or of none of the connections
abbrev pub is_left : List ℕ → List Place → Watch → Bool
is_left connections places w =
    not (list_any (λ at. is_at at w) places && among connections w.connection)

-- the positions of the watches that an event at a path removes
abbrev pub once_at : EventKind → Path → List Place
once_at NodeCreated path = place path Data ∷ place path Missing ∷ []
once_at NodeDataChanged path = place path Data ∷ []
once_at NodeDeleted path = place path Data ∷ place path Children ∷ []
once_at NodeChildrenChanged path = place path Children ∷ []
once_at other path = []
