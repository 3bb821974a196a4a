-- Items that follow each other by their links.
use Rattle.std.specs.Prelude.{◌≡◌, [], ◌∷◌, Option, Some, None}
use Rattle.std.specs.FinMap.{get}
use Rattle.zslots.specs.declared.id.Id.{Id}
use Rattle.zslots.specs.declared.linked.Links.{Links}
use Rattle.zslots.specs.Ids.{Ids, first_of, last_or}
use Rattle.zslots.specs.SlotsView.{Items}

module _ {T : Type 0} (links : T → Links) where
  -- starting with `first`, these items follow each other to the end; `before` is the item before
  -- the first
  abbrev pub Chain : Items T → Option Id → Option Id → Ids → Type 0
  Chain m before first [] = first ≡ None
  Chain m before first (id ∷ ids) =
      (first ≡ Some id) × (x : T) × (get m id ≡ Some x) × ((links x).prev ≡ before)
      × Chain m (Some id) (links x).next ids

  -- the item's own links name the last Id of the front and the first Id of the back
  abbrev pub IsBetween : Items T → Id → Ids → Ids → Type 0
  IsBetween m id front back =
      (x : T) × (get m id ≡ Some x) × (links x ≡ record { next = first_of back; prev = last_or None front })
