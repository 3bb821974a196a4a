-- What the fields of a `Slots` represent.
use Rattle.std.specs.Prelude.{◌≡◌, ℕ, ◌+◌, ◌-◌, ◌<◌, List, [], ◌∷◌, Option, Some, None, slice_index_or}
use Rattle.std.specs.FinMap.{from_entries}
use Rattle.slab.specs.Slab.{slab_len}
use Rattle.zslots.specs.declared.id.Id.{Id}
use Rattle.zslots.specs.declared.slots.Slot.{Slot}
use Rattle.zslots.specs.declared.slots.Slots.TheInside.{Inside}
use Rattle.zslots.specs.Generations.{generation_number}
use Rattle.zslots.specs.SlotsView.{SlotsView, Items}

module _ {T : Type 0} where
  -- the items of these slots by Id; the first slot has this index
  abbrev pub entries_from : ℕ → List (Option (Slot T)) → List (Id × T)
  entries_from index [] = []
  entries_from index (None ∷ slots) = entries_from (index + 1) slots
  entries_from index (Some s ∷ slots) =
      (record { index = index; generation = s.generation }, s.item) ∷ entries_from (index + 1) slots

  -- the items by Id
  abbrev pub items_of : List (Option (Slot T)) → Items T
  items_of slots = from_entries (entries_from 0 slots)

  -- the view of the fields that a contract sees
  abbrev pub view_of : Inside T → SlotsView T
  view_of s =
      record {
        items = items_of s.slab.slots;
        given = s.given;
        room = s.slab.capacity - slab_len s.slab;
      }

  -- every slot's generation has been given out
  abbrev pub HasGivenSlots : List (Option (Slot T)) → ℕ → Type 0
  HasGivenSlots slots given =
      (index : ℕ) (s : Slot T) → slice_index_or slots index None ≡ Some s → generation_number s.generation < given
