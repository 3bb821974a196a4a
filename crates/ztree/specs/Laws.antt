-- Laws on paths and nodes: they say what the other definitions mean.
use Rattle.std.specs.Prelude.{◌≡◌, ℕ, false, Bool, List, [], ◌∷◌, ◌++◌, ◌==◌}
use Rattle.std.specs.List.{list_any}
use Rattle.std.specs.Option.{option_map_or}
use Rattle.std.specs.declared.cmp.Ordering.{Ordering}
use Rattle.std.specs.Ordering.{eq_by_cmp}
use Rattle.std.specs.FinMap.{get}
use Rattle.std.specs.Str.{bytes_eq}
use Rattle.zpath.specs.Grammar.{path_cmp}
use Rattle.ztree.specs.declared.node.Node.{Node}
use Rattle.ztree.specs.Tree.{Name, Path, Nodes, has_node, parent_of, children, ephemerals}
use Rattle.ztree.specs.Stale.{is_stale_at, stale_nodes}

-- the name is among the names
abbrev pub has_name : List Name → Name → Bool
has_name names name = list_any (bytes_eq name) names

-- the path is among the paths
abbrev pub has_path : List Path → Path → Bool
has_path paths path = list_any (eq_by_cmp path_cmp path) paths

-- no key occurs twice
abbrev pub NoneTwice : {K : Type 0} → (K → K → Ordering) → List K → Type 0
NoneTwice R [] = Unit {0}
NoneTwice R (k ∷ ks) = (list_any (eq_by_cmp R k) ks ≡ false) × NoneTwice R ks

-- a name is listed as a child exactly when the path extended by it is a node
abbrev pub ListsChildren : Type 0
ListsChildren = (nodes : Nodes) (path : Path) (name : Name) → has_name (children nodes path) name ≡ has_node nodes (path ++ name ∷ [])

-- the parent of a path extended by one name is the path
abbrev pub IsParentOfChild : Type 0
IsParentOfChild = (path : Path) (name : Name) → parent_of (path ++ name ∷ []) ≡ path

-- a tick removes a path exactly when its node is due and has no children
abbrev pub ListsStale : Type 0
ListsStale = (nodes : Nodes) (tick : ℕ) (path : Path) → has_path (stale_nodes nodes tick) path ≡ is_stale_at nodes tick path

-- the node at the path exists, and the session owns it
abbrev pub is_owned_at : Nodes → ℕ → Path → Bool
is_owned_at nodes session path = option_map_or (λ (n : Node). n.owner == session) (get nodes path) false

-- a path is an ephemeral of a session exactly when that session owns the node at it
abbrev pub ListsEphemerals : Type 0
ListsEphemerals = (nodes : Nodes) (session : ℕ) (path : Path) → has_path (ephemerals nodes session) path ≡ is_owned_at nodes session path
