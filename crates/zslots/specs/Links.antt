-- What a list's calls write into the items' links. A neighbour that doesn't exist isn't written.
use Rattle.std.specs.Prelude.{Option, Some, None}
use Rattle.std.specs.Option.{option_map_or}
use Rattle.std.specs.FinMap.{get, insert}
use Rattle.zslots.specs.declared.id.Id.{Id}
use Rattle.zslots.specs.declared.linked.Links.{Links}
use Rattle.zslots.specs.SlotsView.{Items}

-- the links of a missing item
abbrev pub no_links : Links
no_links = record { next = None; prev = None }

-- the links of the item with this Id
abbrev pub links_at : {T : Type 0} → (T → Links) → Items T → Id → Links
links_at links m id = option_map_or links (get m id) no_links

-- the items with one item's links written, if it exists
abbrev pub with_links_at : {T : Type 0} → (T → Links → T) → Items T → Id → Links → Items T
with_links_at with_links m id to = option_map_or (λ x. insert m id (with_links x to)) (get m id) m

module _ {T : Type 0} (links : T → Links) (with_links : T → Links → T) where
  -- the items with one item's `next` written, if it exists
  abbrev pub with_next_at : Items T → Option Id → Option Id → Items T
  with_next_at m None next = m
  with_next_at m (Some id) next =
      option_map_or (λ x. insert m id (with_links x (record { next = next; prev = (links x).prev })))
      (get m id) m

  -- the items with one item's `prev` written, if it exists
  abbrev pub with_prev_at : Items T → Option Id → Option Id → Items T
  with_prev_at m None prev = m
  with_prev_at m (Some id) prev =
      option_map_or (λ x. insert m id (with_links x (record { next = (links x).next; prev = prev })))
      (get m id) m

  -- the items with two links written: the `next` of the left one, and the `prev` of the right one
  abbrev pub with_ends : Items T → Option Id → Option Id → Option Id → Option Id → Items T
  with_ends m left next right prev = with_prev_at (with_next_at m left next) right prev

  -- the items with one inserted before the first
  abbrev pub with_front : Items T → Option Id → Id → Items T
  with_front m first id =
      with_links_at with_links (with_prev_at m first (Some id)) id (record { next = first; prev = None })

  -- the items with an item's neighbours linked to each other; its own links stay
  abbrev pub without : Items T → Id → Items T
  without m id =
      with_ends m (links_at links m id).prev (links_at links m id).next (links_at links m id).next
      (links_at links m id).prev

  -- the items with one inserted between the neighbours that its own links name
  abbrev pub with_between : Items T → Id → Items T
  with_between m id =
      with_ends m (links_at links m id).prev (Some id) (links_at links m id).next (Some id)
