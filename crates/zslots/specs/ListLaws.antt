-- Laws of lists, whatever links the items have.
use Rattle.std.specs.Prelude.{◌≡◌, ℕ, ◌∷◌, ◌++◌, Option}
use Rattle.std.specs.Option.{option_map}
use Rattle.std.specs.FinMap.{get}
use Rattle.zslots.specs.declared.id.Id.{Id}
use Rattle.zslots.specs.declared.linked.Links.{Links}
use Rattle.zslots.specs.declared.list.List.{List as IdList}
use Rattle.zslots.specs.Ids.{Ids, first_of}
use Rattle.zslots.specs.SlotsView.{Items}
use Rattle.zslots.specs.Links.{with_front, without, with_between}
use Rattle.zslots.specs.Lists.{IsList, list_without, list_with_between}

-- a list represents at most one sequence of Ids
abbrev pub IsOneList : ℕ → {T : Type 0} → (T → Links) → Type 0
IsOneList L {T} links =
    (m : Items T) (list : IdList L) (a b : Ids) → IsList links m list a →
    IsList links m list b → a ≡ b

-- a list's `first` is the first of its Ids
abbrev pub BeginsWithFirst : ℕ → {T : Type 0} → (T → Links) → Type 0
BeginsWithFirst L {T} links =
    (m : Items T) (list : IdList L) (ids : Ids) → IsList links m list ids →
    list.first ≡ first_of ids

module _ {T : Type 0} (links : T → Links) (with_links : T → Links → T) where
  -- an item that is unlinked and then relinked leaves all items and the list as they were
  abbrev pub RelinkUndoesUnlink : ℕ → Type 0
  RelinkUndoesUnlink L =
      (m : Items T) (list : IdList L) (front back : Ids) (id : Id) →
      IsList links m list (front ++ id ∷ back) →
      (with_between links with_links (without links with_links m id) id ≡ m)
      × (list_with_between links (without links with_links m id) (list_without links m list id) id
      ≡ list)

  -- no call of a list changes a part of an item that writing its links leaves alone
  abbrev pub LeavesOtherParts : Type 0 → Type 0
  LeavesOtherParts X =
      (part : T → X) → ((x : T) (to : Links) → part (with_links x to) ≡ part x) →
      (m : Items T) (first : Option Id) (id q : Id) →
      (option_map part (get (with_front links with_links m first id) q) ≡ option_map part (get m q))
      × (option_map part (get (without links with_links m id) q) ≡ option_map part (get m q))
      × (option_map part (get (with_between links with_links m id) q) ≡ option_map part (get m q))

  -- no call of a list changes another list, if writing this list's links leaves the other's alone
  abbrev pub LeavesOtherLists : ℕ → Type 0
  LeavesOtherLists K =
      (other : T → Links) → ((x : T) (to : Links) → other (with_links x to) ≡ other x) →
      (m : Items T) (list : IdList K) (ids : Ids) → IsList other m list ids →
      (first : Option Id) (id : Id) →
      IsList other (with_front links with_links m first id) list ids
      × IsList other (without links with_links m id) list ids
      × IsList other (with_between links with_links m id) list ids
