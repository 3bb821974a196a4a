-- Runs of calls on one `Slots`, as its contracts describe them.
use Rattle.std.specs.Prelude.{◌≡◌, ◌+◌, List, [], ◌∷◌, IsSome}
use Rattle.std.specs.FinMap.{get, insert, remove}
use Rattle.zslots.specs.declared.id.Id.{Id}
use Rattle.zslots.specs.Ids.{Ids}
use Rattle.zslots.specs.SlotsView.{SlotsView, IsNew}

-- a call that changes a `Slots`: an insert with the Id it returned, a remove, or a write through
-- `get_mut`
pub data Change (T : Type 0) : Type 0 where
  Insert : Id → T → Change T
  Remove : Id → Change T
  Write : Id → T → Change T

module _ {T : Type 0} where
  -- the call changes the old view to the new one, apart from the room
  abbrev pub IsChange : SlotsView T → Change T → SlotsView T → Type 0
  IsChange old (Insert id item) new =
      IsNew old id × (new.items ≡ insert old.items id item) × (new.given ≡ old.given + 1)
  IsChange old (Remove id) new = (new.items ≡ remove old.items id) × (new.given ≡ old.given)
  IsChange old (Write id item) new =
      IsSome (get old.items id) × (new.items ≡ insert old.items id item) × (new.given ≡ old.given)

  -- the calls in sequence change the old view to the new one, apart from the room
  abbrev pub IsRun : SlotsView T → List (Change T) → SlotsView T → Type 0
  IsRun old [] new = (new.items ≡ old.items) × (new.given ≡ old.given)
  IsRun old (change ∷ changes) new =
      (next : SlotsView T) × IsChange old change next × IsRun next changes new

  -- the Ids that a run returned, in order
  abbrev pub ids_of_run : List (Change T) → Ids
  ids_of_run [] = []
  ids_of_run (Insert id item ∷ changes) = id ∷ ids_of_run changes
  ids_of_run (Remove id ∷ changes) = ids_of_run changes
  ids_of_run (Write id item ∷ changes) = ids_of_run changes
