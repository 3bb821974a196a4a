-- A tree restored from rows: the root, then the sessions in the order of their ids, then the other
-- nodes in the order of their paths. Here are the tree that rows make, and which rows can be put.
-- The rows of a state are this project's profile.
use Rattle.std.specs.Prelude.{◌≡◌, ℕ, ◌<◌, ◌≤◌, false, List, [], ◌∷◌, None}
use Rattle.std.specs.FinMap as finite
use Rattle.std.specs.FinMap.{get, insert}
use Rattle.ztree.specs.declared.limits.TreeLimits.{TreeLimits}
use Rattle.ztree.specs.declared.term.Term.TheVariants.{Unlimited}
use Rattle.ztree.specs.declared.node.Node.{Node}
use Rattle.ztree.specs.declared.session.Session.{Session}
use Rattle.ztree.specs.Tree.{Tree, Path, parent_of, has_node}
use Rattle.ztree.specs.Limits.{AreLimits}
use Rattle.ztree.specs.Lawful.{AllSessions, IsPersistent, IsOwner, HasOneEnd}

-- the root alone, at this tick, after this change and within these limits
abbrev pub rooted_tree : Node → ℕ → ℕ → TreeLimits → Tree
rooted_tree root time zxid limits =
    record {
      nodes = insert finite.empty [] root;
      sessions = finite.empty;
      time = time;
      zxid = zxid;
      limits = limits;
    }

-- the tree with one more node, unchanged; its parent's fields for its children are left alone
abbrev pub with_row : Tree → Path → Node → Tree
with_row t path n = record t { nodes = insert t.nodes path n }

-- the tree with one more session, unchanged
abbrev pub with_session_row : Tree → ℕ → Session → Tree
with_session_row t id s = record t { sessions = insert t.sessions id s }

-- the node can be the root: it has no owner, and its term is unlimited
pub record CanBeRoot (root : Node) : Type 0 where
  pub nobodys : root.owner ≡ 0
  pub stays : root.term ≡ Unlimited

-- the session can be put: its id is free and not 0, and it has not expired
pub record CanPutSession (t : Tree) (id : ℕ) (s : Session) : Type 0 where
  pub free : get t.sessions id ≡ None
  pub somebody : 0 < id
  pub lives : t.time < s.deadline
  pub few : finite.len t.sessions < t.limits.sessions

-- the node can be put: its path is free, its parent exists and is persistent, its owner is live,
-- and it has an unlimited term or no owner
pub record CanPut (t : Tree) (path : Path) (n : Node) : Type 0 where
  pub free : has_node t.nodes path ≡ false
  pub parent : IsPersistent (get t.nodes (parent_of path))
  pub owner : IsOwner t.sessions n.owner
  pub one_end : HasOneEnd n
  pub few : finite.len t.nodes < t.limits.nodes

-- the tree with these sessions put, one after the other
abbrev pub with_session_rows : Tree → List (ℕ × Session) → Tree
with_session_rows t [] = t
with_session_rows t (row ∷ rows) = with_session_rows (with_session_row t row.0 row.1) rows

-- the tree with these nodes put, one after the other
abbrev pub with_rows : Tree → List (Path × Node) → Tree
with_rows t [] = t
with_rows t (row ∷ rows) = with_rows (with_row t row.0 row.1) rows

-- each of these sessions can be put after those before it
abbrev pub CanPutSessions : Tree → List (ℕ × Session) → Type 0
CanPutSessions t [] = Unit {0}
CanPutSessions t (row ∷ rows) =
    CanPutSession t row.0 row.1 × CanPutSessions (with_session_row t row.0 row.1) rows

-- each of these nodes can be put after those before it
abbrev pub CanPutAll : Tree → List (Path × Node) → Type 0
CanPutAll t [] = Unit {0}
CanPutAll t (row ∷ rows) = CanPut t row.0 row.1 × CanPutAll (with_row t row.0 row.1) rows

-- the tree with other limits
abbrev pub with_limits : Tree → TreeLimits → Tree
with_limits t limits = record t { limits = limits }

-- the tree fits within these limits: its nodes, its sessions, and the timeout of each session
pub record FitsWithin (t : Tree) (limits : TreeLimits) : Type 0 where
  pub allowed : AreLimits limits
  pub nodes : finite.len t.nodes ≤ limits.nodes
  pub sessions : finite.len t.sessions ≤ limits.sessions
  pub timeouts : AllSessions (λ id s. s.timeout ≤ limits.timeout) t.sessions
