-- Laws of the rows of a lawful tree. Each is the contract of a function in `src/laws.rt`.
use Rattle.std.specs.Prelude.{◌≡◌, ℕ, List, [], ◌∷◌, ◌++◌, Some}
use Rattle.std.specs.FinMap.{get, entries}
use Rattle.ztree.specs.declared.node.Node.{Node}
use Rattle.ztree.specs.declared.session.Session.{Session}
use Rattle.ztree.specs.Tree.{Tree, Path}
use Rattle.ztree.specs.Lawful.{IsLawful}
use Rattle.zstore.specs.Restored.{rooted_tree, with_session_rows, with_rows, CanBeRoot, CanPutSession, CanPutSessions, CanPut, CanPutAll}

-- The tree's own rows restore it: the first node in the order of paths is the root. Its sessions
-- can be put one after the other, then its other nodes, and the result is the tree.
pub record IsRebuilt (t : Tree) : Type 0 where
  pub root : Node
  pub rows : List (Path × Node)
  pub listed : entries t.nodes ≡ ([], root) ∷ rows
  pub can_root : CanBeRoot root
  pub can_sessions : CanPutSessions (rooted_tree root t.time t.zxid t.limits) (entries t.sessions)
  pub can_nodes : CanPutAll
      (with_session_rows (rooted_tree root t.time t.zxid t.limits) (entries t.sessions)) rows
  pub whole : with_rows
      (with_session_rows (rooted_tree root t.time t.zxid t.limits) (entries t.sessions)) rows ≡ t

-- a lawful tree's own rows restore it
abbrev pub RowsMakeTheirTree : Type 0
RowsMakeTheirTree = (t : Tree) → IsLawful t → IsRebuilt t

-- in the order of ids, these sessions are the first of the whole tree's, and this one is next
pub record IsNextSession (whole so_far : Tree) (id : ℕ) (s : Session) : Type 0 where
  pub after : List (ℕ × Session)
  pub rows : entries whole.sessions ≡ entries so_far.sessions ++ (id, s) ∷ after
  pub time : so_far.time ≡ whole.time
  pub limits : so_far.limits ≡ whole.limits

-- in the order of paths, these nodes are the first of the whole tree's, and this one is next; all
-- sessions are there
pub record IsNext (whole so_far : Tree) (path : Path) (n : Node) : Type 0 where
  pub after : List (Path × Node)
  pub rows : entries whole.nodes ≡ entries so_far.nodes ++ (path, n) ∷ after
  pub sessions : so_far.sessions ≡ whole.sessions
  pub limits : so_far.limits ≡ whole.limits

-- a node that can't be the root is the root of no lawful tree
abbrev pub RefusedRootsAreNowhere : Type 0
RefusedRootsAreNowhere =
    (root : Node) → (CanBeRoot root → ⊥) →
    (whole : Tree) → IsLawful whole → get whole.nodes [] ≡ Some root → ⊥

-- a session that can't be put is the next one of no lawful tree
abbrev pub RefusedSessionsAreNowhere : Type 0
RefusedSessionsAreNowhere =
    (so_far : Tree) (id : ℕ) (s : Session) → (CanPutSession so_far id s → ⊥) →
    (whole : Tree) → IsLawful whole → IsNextSession whole so_far id s → ⊥

-- a node that can't be put is the next one of no lawful tree
abbrev pub RefusedNodesAreNowhere : Type 0
RefusedNodesAreNowhere =
    (so_far : Tree) (path : Path) (n : Node) → IsLawful so_far → (CanPut so_far path n → ⊥) →
    (whole : Tree) → IsLawful whole → IsNext whole so_far path n → ⊥
