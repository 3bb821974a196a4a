-- Laws of every run of calls on one `Slots`.
use Rattle.std.specs.Prelude.{◌≡◌, List, None, IsSome}
use Rattle.std.specs.FinMap.{get}
use Rattle.zslots.specs.declared.id.Id.{Id}
use Rattle.zslots.specs.Ids.{NoTwo}
use Rattle.zslots.specs.SlotsView.{SlotsView, empty_slots}
use Rattle.zslots.specs.Runs.{Change, IsRun, IsChange, ids_of_run}
use Rattle.zslots.specs.Runs.Change.{Remove}

-- no Id is given out twice
abbrev pub GivesEachIdOnce : Type 0 → Type 0
GivesEachIdOnce T =
    (s : SlotsView T) (changes : List (Change T)) → IsRun empty_slots changes s →
    NoTwo (ids_of_run changes)

-- the Id of a removed item names nothing after any further calls
abbrev pub LeavesRemovedIds : Type 0 → Type 0
LeavesRemovedIds T =
    (s t u : SlotsView T) (id : Id) (before after : List (Change T)) → IsRun empty_slots before s →
    IsSome (get s.items id) → IsChange s (Remove id) t → IsRun t after u → get u.items id ≡ None
