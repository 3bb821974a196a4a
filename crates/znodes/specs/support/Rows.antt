-- The rows of the nodes, the lists in which they are, and what they represent.
use Rattle.std.specs.Prelude.{◌≡◌, ◌≤◌, ℕ, Bool, true, false, [], ◌∷◌, List, Option, None, Some, if◌then◌else◌}
use Rattle.std.specs.Global.{Global}
use Rattle.std.specs.Option.{option_map, option_map_or, option_and_then}
use Rattle.std.specs.Ordering.{nat_cmp}
use Rattle.std.specs.FinMap.{FinMap, get, len}
use Rattle.zslots.specs.declared.id.Id.{Id}
use Rattle.zslots.specs.declared.limits.TheConstants.{MAX_SLOTS}
use Rattle.zslots.specs.declared.linked.Links.{Links}
use Rattle.zslots.specs.declared.list.List.{List as IdList}
use Rattle.zslots.specs.Ids.{id_cmp}
use Rattle.zslots.specs.SlotsView.{Items}
use Rattle.zslots.specs.Links.{no_links}
use Rattle.zslots.specs.Lists.{empty_list}
use Rattle.zslots.specs.Families.{HasFamilies}
use Rattle.zslots.specs.MapValues.{map_values}
use Rattle.znodes.specs.index.IndexView.{IdsByPath}
use Rattle.ztree.specs.declared.node.Node.{Node}
use Rattle.ztree.specs.Tree.{Name, Path, Nodes, parent_of}
use Rattle.ztree.specs.Stale.{may_end}
use Rattle.znodes.specs.declared.row.Row.{Row}
use Rattle.znodes.specs.NodesView.{Taken}
use Rattle.znodes.specs.declared.counts.Counts.{Counts}
use Rattle.znodes.specs.support.OwnerLists.{OwnerLists, somebody}
use Rattle.znodes.specs.support.Counting.{AreCounts}

-- the index's key of a node
abbrev pub Key : Type 0
Key = List Name

-- a row in no list
abbrev pub lone_row : Global → Path → Node → Option Key → Row
lone_row alloc path node key =
    record {
      path = path;
      node = node;
      parent = None;
      children = empty_list;
      siblings = no_links;
      fellows = no_links;
      timed = no_links;
      key = key;
      alloc = alloc;
    }

-- the node is in the tree: the index has its key
abbrev pub is_live : Row → Bool
is_live r = option_map_or (λ _. false) r.key true

-- the path above, but above the root there is none
abbrev pub above : Path → Option Path
above [] = None
above (n ∷ path) = Some (parent_of (n ∷ path))

-- the path above a live node: whose list of children it is in
abbrev pub parent_key : Row → Option Path
parent_key r = if is_live r then above r.path else None

-- the owner of a live node: whose list it is in
abbrev pub owner_key : Row → Option ℕ
owner_key r = if is_live r then somebody r.node.owner else None

-- where a tick may remove the node, its one list's key
abbrev pub timed_by : Bool → Option (Unit {0})
timed_by ends = if ends then Some tt else None

-- a live node that a tick may remove is in the one list of these
abbrev pub timed_key : Row → Option (Unit {0})
timed_key r = if is_live r then timed_by (may_end r.node.term) else None

-- the links among the children of one parent
abbrev pub sibling_links : Row → Links
sibling_links r = r.siblings

-- the links among the nodes of one owner
abbrev pub fellow_links : Row → Links
fellow_links r = r.fellows

-- the links among the nodes that ticks may remove
abbrev pub timed_links : Row → Links
timed_links r = r.timed

-- the list of the children of a row, and of no row
abbrev pub children_at : Items Row → Id → IdList 0
children_at m id = option_map_or (λ (r : Row). r.children) (get m id) empty_list

-- the list of the children of the node at a path
abbrev pub children_of : Items Row → IdsByPath → Path → IdList 0
children_of m ids path = option_map_or (children_at m) (get ids path) empty_list

-- the list of the nodes of an owner
abbrev pub owned_by : OwnerLists → ℕ → IdList 1
owned_by owners owner = option_map_or (λ (list : IdList 1). list) (get owners owner) empty_list

-- a row that was taken away still has the index's key, and has no children
abbrev pub KeepsKey : Row → Type 0
KeepsKey r = (key : Key) → r.key ≡ Some key → (key ≡ r.path) × (r.children ≡ empty_list)

-- the invariant: the index names each live row by its path and nothing else. A row that was taken
-- away still has its key, and has no children. The lists hold exactly the children of each path,
-- and the nodes of each owner
pub record IsLinked (m : Items Row) (ids : IdsByPath) (owners : OwnerLists) : Type 0 where
  pub named : (path : Path) (id : Id) → get ids path ≡ Some id →
      (r : Row) × (get m id ≡ Some r) × (r.path ≡ path) × (r.key ≡ None)
  pub found : (id : Id) (r : Row) → get m id ≡ Some r → r.key ≡ None → get ids r.path ≡ Some id
  pub keyed : (id : Id) (r : Row) → get m id ≡ Some r → KeepsKey r
  pub children : HasFamilies sibling_links parent_key m (children_of m ids)
  pub owned : HasFamilies fellow_links owner_key m (owned_by owners)

-- the list holds exactly the live nodes that ticks may remove
abbrev pub HasTimed : Items Row → IdList 2 → Type 0
HasTimed m timed = HasFamilies timed_links timed_key m (λ _. timed)

-- each live row names the node above it, and the root's names none
abbrev pub NamesParents : Items Row → IdsByPath → Type 0
NamesParents m ids =
    (id : Id) (r : Row) → get m id ≡ Some r → r.key ≡ None →
    r.parent ≡ option_and_then (get ids) (above r.path)

-- where a live row is
abbrev pub live_path : Row → Option Path
live_path r = if is_live r then Some r.path else None

-- what a row is that was taken away
abbrev pub taken_row : Row → Option Taken
taken_row r = if is_live r then None else Some (r.path, r.node)

-- the node under an Id
abbrev pub node_at : Items Row → Id → Option Node
node_at m id = option_map (λ (r : Row). r.node) (get m id)

-- what the rows, the index and the owners show
abbrev pub nodes_of : Items Row → IdsByPath → Nodes
nodes_of m ids = map_values (node_at m) ids

abbrev pub places_of : Items Row → FinMap id_cmp Path
places_of m = map_values live_path m

abbrev pub held_of : Items Row → FinMap id_cmp Taken
held_of m = map_values taken_row m

abbrev pub known_of : OwnerLists → FinMap nat_cmp (Unit {0})
known_of owners = map_values (λ _. Some tt) owners

-- the invariant: of all lists, of the nodes above, and of the counts. There are no more rows than
-- slots can have
pub record IsThreaded (m : Items Row) (ids : IdsByPath) (owners : OwnerLists) (timed : IdList 2)
    (counts : Counts) : Type 0 where
  pub linked : IsLinked m ids owners
  pub mortal : HasTimed m timed
  pub parents : NamesParents m ids
  pub counted : AreCounts (nodes_of m ids) counts
  pub few : len m ≤ MAX_SLOTS
