-- A list for each key, such as the children of each path. Each item is in the list of its key.
use Rattle.std.specs.Prelude.{◌≡◌, ◌≢◌, ◌⊎◌, ◌↔◌, ℕ, Option, Some}
use Rattle.std.specs.Option.{option_and_then}
use Rattle.std.specs.FinMap.{get}
use Rattle.zslots.specs.declared.id.Id.{Id}
use Rattle.zslots.specs.declared.linked.Links.{Links}
use Rattle.zslots.specs.declared.list.List.{List as IdList}
use Rattle.zslots.specs.Ids.{Ids, IsIn}
use Rattle.zslots.specs.SlotsView.{Items}
use Rattle.zslots.specs.Lists.{IsList}

-- the key of the item with this Id, if there is one
abbrev pub key_at : {T K : Type 0} → (T → Option K) → Items T → Id → Option K
key_at key_of m id = option_and_then key_of (get m id)

module _ {L : ℕ} {T K : Type 0} (links : T → Links) where
  -- the list has exactly the Ids with this key
  abbrev pub IsFamily : Items T → (Id → Option K) → IdList L → K → Type 0
  IsFamily m key list k =
      (ids : Ids) × IsList links m list ids × ((id : Id) → IsIn id ids ↔ (key id ≡ Some k))

  -- each key's list has exactly the Ids with that key
  abbrev pub IsListedBy : Items T → (Id → Option K) → (K → IdList L) → Type 0
  IsListedBy m key heads = (k : K) → IsFamily m key (heads k) k

  -- each key's list has exactly the items with that key
  abbrev pub HasFamilies : (T → Option K) → Items T → (K → IdList L) → Type 0
  HasFamilies key_of m heads = IsListedBy m (key_at key_of m) heads

-- every key's list is unchanged, except that of one key
abbrev pub ChangesHead :
    {L : ℕ} {K : Type 0} → (K → IdList L) → (K → IdList L) → K → IdList L → Type 0
ChangesHead {K = K} heads later k list =
    (q : K) → ((q ≡ k) × (later q ≡ list)) ⊎ ((q ≢ k) × (later q ≡ heads q))
