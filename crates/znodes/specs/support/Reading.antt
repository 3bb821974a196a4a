-- What is read of the rows.
use Rattle.std.specs.Prelude.{◌≡◌, ◌↔◌, IsPermutation, IsSorted, ℕ, Bool, true, false, ◌==◌, ◌&&◌, List, [], ◌∷◌, ◌++◌, Option, None, Some, if◌then◌else◌}
use Rattle.std.specs.Option.{option_map, option_map_or, option_and_then}
use Rattle.std.specs.List.{filter_map}
use Rattle.std.specs.FinMap.{get}
use Rattle.zpath.specs.Grammar.{path_cmp}
use Rattle.zslots.specs.declared.id.Id.{Id}
use Rattle.zslots.specs.declared.list.List.{List as IdList}
use Rattle.zslots.specs.Ids.{Ids, IsIn, NoTwo}
use Rattle.zslots.specs.Lists.{IsList}
use Rattle.zslots.specs.SlotsView.{Items}
use Rattle.ztree.specs.Tree.{Name, Path}
use Rattle.ztree.specs.Stale.{is_due, is_stale_at}
use Rattle.znodes.specs.NodesView.{NodesView, path_of}
use Rattle.znodes.specs.declared.row.Row.{Row}
use Rattle.znodes.specs.support.Rows.{is_live, sibling_links, fellow_links, timed_links}

-- the row, where its node is in the tree
abbrev pub if_live : Row → Option Row
if_live r = if is_live r then Some r else None

-- the live row that an Id names
abbrev pub live_at : Items Row → Id → Option Row
live_at m id = option_and_then if_live (get m id)

-- the last name of a path, which the root has not
abbrev pub last_name : Path → Option Name
last_name [] = None
last_name (n ∷ []) = Some n
last_name (n ∷ (m ∷ path)) = last_name (m ∷ path)

-- the last name of the path of the row that an Id names
abbrev pub name_at : Items Row → Id → Option Name
name_at m id = option_and_then (λ (r : Row). last_name r.path) (get m id)

-- these of the rows of a list
abbrev pub names_at : Items Row → Ids → List Name
names_at m ids = filter_map (name_at m) ids

-- these are the names of a list's rows, in the list's order
abbrev pub AreNamesOf : Items Row → IdList 0 → List Name → Type 0
AreNamesOf m list names = (ids : Ids) → IsList sibling_links m list ids → names ≡ names_at m ids

-- the path of the row that an Id names
abbrev pub path_at : Items Row → Id → Option Path
path_at m id = option_map (λ (r : Row). r.path) (get m id)

-- the paths of the rows that Ids name
abbrev pub paths_at : Items Row → Ids → List Path
paths_at m ids = filter_map (path_at m) ids

-- these are the paths of the rows that Ids name, in their order
pub record AreSorted (m : Items Row) (ids : Ids) (paths : List Path) : Type 0 where
  pub moved : IsPermutation (paths_at m ids) paths
  pub up : IsSorted path_cmp paths

-- these are the Ids of an owner's list
abbrev pub AreOwnedIds : Items Row → IdList 1 → Ids → Type 0
AreOwnedIds m list found = (ids : Ids) → IsList fellow_links m list ids → found ≡ ids

-- these are the paths of the rows of an owner's list, in their order; without a list there are none
abbrev pub AreOwnedPaths : Items Row → Option (IdList 1) → List Path → Type 0
AreOwnedPaths m None paths = paths ≡ []
AreOwnedPaths m (Some list) paths =
    (ids : Ids) → IsList fellow_links m list ids → AreSorted m ids paths

-- a tick removes the node of the row that an Id names, if it is in the tree: it is due, and has no
-- children
abbrev pub is_stale_row : Items Row → ℕ → Id → Bool
is_stale_row m tick id =
    option_map_or (λ (r : Row). is_due tick r.node && (r.children.len == 0)) (get m id) false

-- a tick removes the node that an Id names
abbrev pub IsStale : NodesView → ℕ → Id → Type 0
IsStale v tick id =
    (path : Path) × (path_of v id ≡ Some path) × (is_stale_at v.nodes tick path ≡ true)

-- these are the Ids of the nodes that a tick removes, each once
pub record AreStaleIds (v : NodesView) (tick : ℕ) (ids : Ids) : Type 0 where
  pub each : (id : Id) → IsIn id ids ↔ IsStale v tick id
  pub once : NoTwo ids

-- those of these rows that a tick removes
abbrev pub stale_of : Items Row → ℕ → Ids → Ids
stale_of m tick ids = filter_map (λ id. if is_stale_row m tick id then Some id else None) ids

-- these are those of a list's rows that a tick removes, in the list's order
abbrev pub AreStaleOf : Items Row → ℕ → IdList 2 → Ids → Type 0
AreStaleOf m tick list stale =
    (ids : Ids) → IsList timed_links m list ids → stale ≡ stale_of m tick ids

-- a row's Id was put after these, where a tick removes its node
abbrev pub AddsStale : Items Row → ℕ → Id → Ids → Ids → Type 0
AddsStale m tick id old new = new ≡ old ++ stale_of m tick (id ∷ [])
