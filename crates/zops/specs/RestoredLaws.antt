-- Laws of the rows of a machine's tree. Each is the contract of a function in `src/laws.rt`.
use Rattle.std.specs.Prelude.{◌≡◌, ℕ, ◌≤◌, List, [], ◌∷◌, Some}
use Rattle.std.specs.FinMap.{get, entries}
use Rattle.ztree.specs.declared.limits.TreeLimits.{TreeLimits}
use Rattle.ztree.specs.declared.node.Node.{Node}
use Rattle.ztree.specs.declared.session.Session.{Session}
use Rattle.ztree.specs.Tree.{Tree, Path}
use Rattle.ztree.specs.Lawful.{IsLawful}
use Rattle.zcalls.specs.Bounds.{IsBounded}
use Rattle.zstore.specs.Restored.{with_row, with_session_row, with_rows, with_session_rows, rooted_tree}
use Rattle.zstore.specs.RestoredLaws.{IsNextSession, IsNext}
use Rattle.zops.specs.declared.limits.TheConstants.{MAX_APPLIED}
use Rattle.zops.specs.Restored.{AllDated, CanBegin, CanPutGranted, CanPutNode}

-- the tree is lawful and bounded, and no node is of a later change or tick
pub record IsSettled (t : Tree) : Type 0 where
  pub lawful : IsLawful t
  pub bounded : IsBounded t
  pub dated : AllDated t

-- each of these sessions can be put after those before it
abbrev pub CanPutAllGranted : Tree → List (ℕ × Session) → Type 0
CanPutAllGranted t [] = Unit {0}
CanPutAllGranted t (row ∷ rows) =
    CanPutGranted t row.0 row.1 × CanPutAllGranted (with_session_row t row.0 row.1) rows

-- each of these nodes can be put after those before it
abbrev pub CanPutAllNodes : Tree → List (Path × Node) → Type 0
CanPutAllNodes t [] = Unit {0}
CanPutAllNodes t (row ∷ rows) =
    CanPutNode t row.0 row.1 × CanPutAllNodes (with_row t row.0 row.1) rows

-- The tree's own rows restore it: a machine can begin with its root. Its sessions can be put one
-- after the other, then its other nodes, and the result is the tree.
pub record IsRestored (t : Tree) (applied : ℕ) : Type 0 where
  pub root : Node
  pub rows : List (Path × Node)
  pub listed : entries t.nodes ≡ ([], root) ∷ rows
  pub can_begin : CanBegin root t.time t.zxid applied t.limits
  pub can_sessions : CanPutAllGranted (rooted_tree root t.time t.zxid t.limits) (entries t.sessions)
  pub can_nodes : CanPutAllNodes
      (with_session_rows (rooted_tree root t.time t.zxid t.limits) (entries t.sessions)) rows
  pub whole : with_rows
      (with_session_rows (rooted_tree root t.time t.zxid t.limits) (entries t.sessions)) rows ≡ t

-- a settled tree's own rows restore it
abbrev pub RowsMakeTheirMachine : Type 0
RowsMakeTheirMachine =
    (t : Tree) (applied : ℕ) → IsSettled t → applied ≤ MAX_APPLIED → IsRestored t applied

-- a root and numbers that no machine can begin with are of no settled tree
abbrev pub RefusedRootsAreNowhere : Type 0
RefusedRootsAreNowhere =
    (root : Node) (time zxid applied : ℕ) (limits : TreeLimits) →
    (CanBegin root time zxid applied limits → ⊥) →
    applied ≤ MAX_APPLIED → (whole : Tree) → IsSettled whole → whole.time ≡ time →
    whole.zxid ≡ zxid → whole.limits ≡ limits → get whole.nodes [] ≡ Some root → ⊥

-- a session that can't be put is the next one of no settled tree
abbrev pub RefusedSessionsAreNowhere : Type 0
RefusedSessionsAreNowhere =
    (so_far : Tree) (id : ℕ) (s : Session) → (CanPutGranted so_far id s → ⊥) →
    (whole : Tree) → IsSettled whole → so_far.zxid ≡ whole.zxid →
    IsNextSession whole so_far id s → ⊥

-- a node that can't be put is the next one of no settled tree
abbrev pub RefusedNodesAreNowhere : Type 0
RefusedNodesAreNowhere =
    (so_far : Tree) (path : Path) (n : Node) → IsLawful so_far → (CanPutNode so_far path n → ⊥) →
    (whole : Tree) → IsSettled whole → so_far.zxid ≡ whole.zxid → so_far.time ≡ whole.time →
    IsNext whole so_far path n → ⊥
