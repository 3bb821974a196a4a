-- What the calls write: how a row is put into its lists, and taken out of them.
use Rattle.std.specs.Prelude.{◌≡◌, ◌+◌, ℕ, Bool, Option, None, Some, IfSome, if◌then◌else◌}
use Rattle.std.specs.Option.{option_map_or, option_and_then}
use Rattle.std.specs.FinMap.{get, insert}
use Rattle.zslots.specs.declared.id.Id.{Id}
use Rattle.zslots.specs.Generations.{generation_number}
use Rattle.zslots.specs.declared.linked.Links.{Links}
use Rattle.zslots.specs.declared.list.List.{List as IdList}
use Rattle.zslots.specs.SlotsView.{SlotsView, Items, with_items}
use Rattle.zslots.specs.Links.{with_front, without}
use Rattle.zslots.specs.Lists.{first_id, list_with_front, list_without}
use Rattle.ztree.specs.declared.node.Node.{Node}
use Rattle.znodes.specs.declared.row.Row.{Row}
use Rattle.znodes.specs.NodesView.{NodesView, Taken, path_of}
use Rattle.znodes.specs.support.Rows.{Key, sibling_links, fellow_links, timed_links}
use Rattle.znodes.specs.support.OwnerLists.{OwnerLists, list_of}

-- a row with other links among its siblings
abbrev pub with_siblings : Row → Links → Row
with_siblings r to = record r { siblings = to }

-- a row with other links among the nodes of its owner
abbrev pub with_fellows : Row → Links → Row
with_fellows r to = record r { fellows = to }

-- a row with other links among the nodes that ticks may remove
abbrev pub with_timed_links : Row → Links → Row
with_timed_links r to = record r { timed = to }

-- the rows with one changed, where it is there
abbrev pub with_row_at : Items Row → Id → (Row → Row) → Items Row
with_row_at m id f = option_map_or (λ r. insert m id (f r)) (get m id) m

-- the rows with one row's list of children written
abbrev pub with_children : Items Row → Id → IdList 0 → Items Row
with_children m id list = with_row_at m id (λ r. record r { children = list })

-- the rows with one row's key written
abbrev pub with_key : Items Row → Id → Option Key → Items Row
with_key m id key = with_row_at m id (λ r. record r { key = key })

-- the rows with the node above one written
abbrev pub with_parent : Items Row → Id → Id → Items Row
with_parent m id parent = with_row_at m id (λ r. record r { parent = Some parent })

-- the key that a row stores
abbrev pub kept_key : Items Row → Id → Option Key
kept_key m id = option_and_then (λ (r : Row). r.key) (get m id)

-- a fact on the list of children of a row, where there is one
abbrev pub AtChildren : Items Row → Option Id → (IdList 0 → Type 0) → Type 0
AtChildren m parent P = IfSome parent (λ p. (r : Row) → get m p ≡ Some r → P r.children)

-- a row put before the children of another
abbrev pub with_child : Items Row → Option Id → Id → Items Row
with_child m None id = m
with_child m (Some parent) id =
    option_map_or (λ r.
    with_children (with_front sibling_links with_siblings m (first_id r.children) id) parent
    (list_with_front r.children id)) (get m parent) m

-- a row taken out of the children of another
abbrev pub without_child : Items Row → Option Id → Id → Items Row
without_child m None id = m
without_child m (Some parent) id =
    option_map_or (λ r.
    with_children (without sibling_links with_siblings m id) parent
    (list_without sibling_links m r.children id)) (get m parent) m

-- a row put before those of its owner's list
abbrev pub with_owned : Items Row → Option (IdList 1) → Id → Items Row
with_owned m None id = m
with_owned m (Some list) id = with_front fellow_links with_fellows m (first_id list) id

-- a row taken out of its owner's list
abbrev pub without_owned : Items Row → Option (IdList 1) → Id → Items Row
without_owned m None id = m
without_owned m (Some list) id = without fellow_links with_fellows m id

-- the owners' lists with a row in one
abbrev pub owners_with : OwnerLists → ℕ → Option (IdList 1) → Id → OwnerLists
owners_with owners owner None id = owners
owners_with owners owner (Some list) id = insert owners owner (list_with_front list id)

-- the owners' lists with a row out of one
abbrev pub owners_without : Items Row → OwnerLists → ℕ → Option (IdList 1) → Id → OwnerLists
owners_without m owners owner None id = owners
owners_without m owners owner (Some list) id =
    insert owners owner (list_without fellow_links m list id)

-- the slots with a row in its owner's list
abbrev pub slots_with_owned : SlotsView Row → OwnerLists → ℕ → Id → SlotsView Row
slots_with_owned s owners owner id = with_items s (with_owned s.items (list_of owners owner) id)

-- and with a row out of it
abbrev pub slots_without_owned : SlotsView Row → OwnerLists → ℕ → Id → SlotsView Row
slots_without_owned s owners owner id =
    with_items s (without_owned s.items (list_of owners owner) id)

-- the owners' lists with a row out of its owner's
abbrev pub owners_left : Items Row → OwnerLists → ℕ → Id → OwnerLists
owners_left m owners owner id = owners_without m owners owner (list_of owners owner) id

-- a row put before those that ticks may remove, where its node is one
abbrev pub with_timed : Items Row → IdList 2 → Bool → Id → Items Row
with_timed m list ends id =
    if ends then with_front timed_links with_timed_links m (first_id list) id else m

-- a row taken out of those that ticks may remove, where its node is one
abbrev pub without_timed : Items Row → Bool → Id → Items Row
without_timed m ends id = if ends then without timed_links with_timed_links m id else m

-- the list of those with the row in it
abbrev pub timed_with : IdList 2 → Bool → Id → IdList 2
timed_with list ends id = if ends then list_with_front list id else list

-- the list of those with the row out of it
abbrev pub timed_without : Items Row → IdList 2 → Bool → Id → IdList 2
timed_without m list ends id = if ends then list_without timed_links m list id else list

-- the rows with one row's node changed
abbrev pub with_node_at : Items Row → Id → (Node → Node) → Items Row
with_node_at m id f = with_row_at m id (λ r. record r { node = f r.node })

-- a node was put in under a new Id, and isn't in the tree yet
pub record Holds (old new : NodesView) (id : Id) (t : Taken) : Type 0 where
  pub free : path_of old id ≡ None
  pub unheld : get old.held id ≡ None
  pub next : generation_number id.generation ≡ old.given
  pub new_is : new ≡ record old { held = insert old.held id t; given = old.given + 1 }
