-- The lawful tree: the invariant of every tree that the service can reach. The source is the
-- ZooKeeper Programmer's Guide, "The ZooKeeper Data Model" ("ZNodes", "Ephemeral Nodes") and
-- "ZooKeeper Sessions". The limits, and deadlines in ticks, are this project's profile.
use Rattle.std.specs.Prelude.{◌≡◌, ℕ, ◌<◌, ◌≤◌, ◌⊎◌, true, [], Option, Some, IsSome}
use Rattle.std.specs.FinMap as finite
use Rattle.std.specs.FinMap.{get}
use Rattle.zpath.specs.Grammar.{IsPath}
use Rattle.ztree.specs.Limits.{AreLimits}
use Rattle.ztree.specs.declared.term.Term.TheVariants.{Unlimited}
use Rattle.ztree.specs.declared.node.Node.{Node}
use Rattle.ztree.specs.declared.session.Session.{Session}
use Rattle.ztree.specs.Tree.{Tree, Path, Nodes, Sessions, parent_of, has_node}

-- every node has the property
abbrev pub AllNodes : (Node → Type 0) → Nodes → Type 0
AllNodes P nodes = (path : Path) (n : Node) → get nodes path ≡ Some n → P n

-- every session, with its id, has the property
abbrev pub AllSessions : (ℕ → Session → Type 0) → Sessions → Type 0
AllSessions P sessions = (id : ℕ) (s : Session) → get sessions id ≡ Some s → P id s

-- the node exists, and no session owns it
abbrev pub IsPersistent : Option Node → Type 0
IsPersistent found = (n : Node) × (found ≡ Some n) × (n.owner ≡ 0)

-- the owner is 0 (no owner) or a live session
abbrev pub IsOwner : Sessions → ℕ → Type 0
IsOwner sessions owner = (owner ≡ 0) ⊎ IsSome (get sessions owner)

-- the node has an unlimited term or no owner: a session's end and a tick don't both remove it
abbrev pub HasOneEnd : Node → Type 0
HasOneEnd n = (n.term ≡ Unlimited) ⊎ (n.owner ≡ 0)

-- the node, if it exists, has an unlimited term
abbrev pub Stays : Option Node → Type 0
Stays found = (n : Node) → found ≡ Some n → n.term ≡ Unlimited

-- The lawful tree. Here the root is its own parent, and owner 0 means no owner: it is no session's
-- id.
pub record IsLawful (t : Tree) : Type 0 where
  pub root : IsPersistent (get t.nodes [])
  pub root_stays : Stays (get t.nodes [])
  pub parents : (path : Path) → has_node t.nodes path ≡ true → IsPersistent (get t.nodes (parent_of path))
  pub owners : AllNodes (λ n. IsOwner t.sessions n.owner) t.nodes
  pub ends : AllNodes HasOneEnd t.nodes
  pub ids : AllSessions (λ id s. 0 < id) t.sessions
  pub deadlines : AllSessions (λ id s. t.time < s.deadline) t.sessions
  pub few_nodes : finite.len t.nodes ≤ t.limits.nodes
  pub few_sessions : finite.len t.sessions ≤ t.limits.sessions
  pub allowed : AreLimits t.limits

-- every key is a path by the grammar
abbrev pub HasPaths : Nodes → Type 0
HasPaths nodes = (path : Path) → has_node nodes path ≡ true → IsPath path
