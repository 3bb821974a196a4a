-- What a list is, and how its two fields change.
use Rattle.std.specs.Prelude.{◌≡◌, ℕ, ◌+◌, ◌-◌, length, Option, Some, None}
use Rattle.zslots.specs.declared.id.Id.{Id}
use Rattle.zslots.specs.declared.linked.Links.{Links}
use Rattle.zslots.specs.declared.list.List.{List as IdList}
use Rattle.zslots.specs.Ids.{Ids, NoTwo, first_if}
use Rattle.zslots.specs.SlotsView.{Items}
use Rattle.zslots.specs.Links.{links_at}
use Rattle.zslots.specs.Chains.{Chain}

-- the list represents these Ids
pub record IsList {L : ℕ} {T : Type 0} (links : T → Links) (m : Items T) (list : IdList L)
    (ids : Ids) : Type 0 where
  pub chain : Chain links m None list.first ids
  pub no_two : NoTwo ids
  pub count : list.len ≡ length ids

module _ {L : ℕ} where
  -- the first Id of a list
  abbrev pub first_id : IdList L → Option Id
  first_id list = list.first

  -- the length of a list
  abbrev pub length_of : IdList L → ℕ
  length_of list = list.len

  -- the empty list
  abbrev pub empty_list : IdList L
  empty_list = record { first = None; len = 0 }

  -- the list with an item before its first
  abbrev pub list_with_front : IdList L → Id → IdList L
  list_with_front list id = record { first = Some id; len = list.len + 1 }

  module _ {T : Type 0} (links : T → Links) where
    -- the list without this item
    abbrev pub list_without : Items T → IdList L → Id → IdList L
    list_without m list id =
        record {
          first = first_if (links_at links m id).prev list.first (links_at links m id).next;
          len = list.len - 1;
        }

    -- the list with this item between the neighbours that its own links name
    abbrev pub list_with_between : Items T → IdList L → Id → IdList L
    list_with_between m list id =
        record {
          first = first_if (links_at links m id).prev list.first (Some id);
          len = list.len + 1;
        }
