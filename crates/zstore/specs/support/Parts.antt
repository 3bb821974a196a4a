-- The parts of a change of the tree, each by a function of its own.
use Rattle.std.specs.Prelude.{◌≡◌, ℕ, ◌+◌, Bool, Some}
use Rattle.std.specs.FinMap.{get, remove}
use Rattle.ztree.specs.declared.node.Node.{Node}
use Rattle.ztree.specs.Tree.{Tree, Path, parent_of, with_change_at, with_child, without_child}
use Rattle.zslots.specs.declared.id.Id.{Id}
use Rattle.znodes.specs.declared.parts.Content.{Content}
use Rattle.znodes.specs.NodesView.{node_with_content}
use Rattle.zstore.specs.StoreView.{StoreView, AtPath, path_of}

-- the marks of the next change at a node beneath which a child came
abbrev pub with_child_at : Tree → Path → Bool → Tree
with_child_at t path sequential =
    record t { nodes = with_change_at t.nodes path (with_child (t.zxid + 1) sequential) }

-- one node fewer
abbrev pub tree_without : Tree → Path → Tree
tree_without t path = record t { nodes = remove t.nodes path }

-- the marks of the next change at a node beneath which a child went
abbrev pub without_child_at : Tree → Path → Tree
without_child_at t path =
    record t { nodes = with_change_at t.nodes path (without_child (t.zxid + 1)) }

-- a child went from beneath the node that an Id names
abbrev pub LosesChild : StoreView → StoreView → Id → Type 0
LosesChild old new id = AtPath old id (λ path. new.tree ≡ without_child_at old.tree path)

-- the second Id names the node right above that of the first
abbrev pub IsUnder : StoreView → Id → Id → Type 0
IsUnder h id parent = AtPath h id (λ path. path_of h parent ≡ Some (parent_of path))

-- one session fewer
abbrev pub tree_without_session : Tree → ℕ → Tree
tree_without_session t id = record t { sessions = remove t.sessions id }

-- the data of the node that an Id names is written
abbrev pub WritesContent : StoreView → StoreView → Id → Content → Type 0
WritesContent old new id content =
    AtPath old id
    (λ path. new.tree ≡ record old.tree
    { nodes = with_change_at old.tree.nodes path (node_with_content content) })

-- the Id names a node that the session owns
abbrev pub IsOwned : StoreView → ℕ → Id → Type 0
IsOwned h session id =
    (path : Path) × (path_of h id ≡ Some path) × (n : Node) × (get h.tree.nodes path ≡ Some
    n) × (n.owner ≡ session)
