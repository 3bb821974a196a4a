-- What a list's calls write, and their effect on a well-formed list.
use Rattle.std.specs.Prelude.{◌≡◌, ◌∷◌, ◌++◌, ℕ, Option, IsSome}
use Rattle.std.specs.FinMap.{get}
use Rattle.zslots.specs.declared.id.Id.{Id}
use Rattle.zslots.specs.declared.linked.Links.{Links}
use Rattle.zslots.specs.declared.list.List.{List as IdList}
use Rattle.zslots.specs.Ids.{Ids, NotIn, first_of}
use Rattle.zslots.specs.SlotsView.{SlotsView, Items, with_items}
use Rattle.zslots.specs.Links.{with_next_at, with_prev_at, with_front, without, with_between}
use Rattle.zslots.specs.Chains.{IsBetween}
use Rattle.zslots.specs.Lists.{IsList, first_id}

module _ {T : Type 0} (links : T → Links) (with_links : T → Links → T) (s : SlotsView T) where
  -- the slots with one item's `next` written
  abbrev pub slots_with_next : Option Id → Option Id → SlotsView T
  slots_with_next at next = with_items s (with_next_at links with_links s.items at next)

  -- the slots with one item's `prev` written
  abbrev pub slots_with_prev : Option Id → Option Id → SlotsView T
  slots_with_prev at prev = with_items s (with_prev_at links with_links s.items at prev)

  -- the slots with an item inserted before the first of a list
  abbrev pub slots_with_front : {L : ℕ} → IdList L → Id → SlotsView T
  slots_with_front list id = with_items s (with_front links with_links s.items (first_id list) id)

  -- the slots with an item's neighbours linked to each other
  abbrev pub slots_without : Id → SlotsView T
  slots_without id = with_items s (without links with_links s.items id)

  -- the slots with an item inserted between the neighbours that its own links name
  abbrev pub slots_with_between : Id → SlotsView T
  slots_with_between id = with_items s (with_between links with_links s.items id)

module _ {L : ℕ} {T : Type 0} (links : T → Links) (m : Items T) (list : IdList L) (id : Id) where
  -- an existing item that wasn't in the list is now its first
  abbrev pub PutsFirst : Items T → IdList L → Type 0
  PutsFirst later new =
      (ids : Ids) → IsList links m list ids → NotIn id ids → IsSome (get m id) →
      IsList links later new (id ∷ ids)

  -- an item of the list is no longer in it
  abbrev pub TakesOut : Items T → IdList L → Type 0
  TakesOut later new =
      (front back : Ids) → IsList links m list (front ++ id ∷ back) →
      IsList links later new (front ++ back)

  -- an item that wasn't in the list is now between the neighbours that its own links name
  abbrev pub PutsBack : Items T → IdList L → Type 0
  PutsBack later new =
      (front back : Ids) → IsList links m list (front ++ back) → NotIn id (front ++ back) →
      IsBetween links m id front back → IsList links later new (front ++ id ∷ back)

  -- the Id that follows the item in the list, if any
  abbrev pub IsNext : Option Id → Type 0
  IsNext next =
      (front back : Ids) → IsList links m list (front ++ id ∷ back) → next ≡ first_of back
