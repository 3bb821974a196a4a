-- The plain tree: the state of the sequential specification. Every call of every layer is specified
-- on it. The source is the ZooKeeper Programmer's Guide, "The ZooKeeper Data Model" ("ZNodes",
-- "ZooKeeper Stat Structure", "Time in ZooKeeper"). "ZooKeeper access control using
-- ACLs" has `aversion`. Ticks, the counter of a node, and zxids as a plain counter are this
-- project's profile.
use Rattle.std.specs.Prelude.{ℕ, ◌+◌, Bool, List, [], ◌∷◌, length, Option, None, Some, if◌then◌else◌, is_some, ◌==◌}
use Rattle.std.specs.Option.{option_map, option_map_or}
use Rattle.std.specs.Ordering.{nat_cmp}
use Rattle.std.specs.FinMap as finite
use Rattle.std.specs.FinMap.{FinMap, get, insert, remove, keys, entries}
use Rattle.std.specs.List.{filter_map}
use Rattle.std.specs.Str.{bytes_eq}
use Rattle.zpath.specs.Grammar.{path_cmp}
use Rattle.ztree.specs.declared.limits.TheConstants.{CONTAINER_OWNER}
use Rattle.ztree.specs.declared.limits.TreeLimits.{TreeLimits}
use Rattle.ztree.specs.Limits.{profile}
use Rattle.ztree.specs.declared.term.Term.{Term}
use Rattle.ztree.specs.declared.term.Term.TheVariants.{Unlimited, Timed, Container}
use Rattle.ztree.specs.declared.node.Node.{Node}
use Rattle.ztree.specs.declared.node.Stat.{Stat}
use Rattle.ztree.specs.declared.session.Session.{Session}

-- a name is a list of bytes
abbrev pub Name : Type 0
Name = List ℕ

-- a path is its names from the root down
abbrev pub Path : Type 0
Path = List Name

-- the znodes by path
abbrev pub Nodes : Type 0
Nodes = FinMap path_cmp Node

-- the sessions by id
abbrev pub Sessions : Type 0
Sessions = FinMap nat_cmp Session

-- the tree: znodes, sessions, the clock in ticks, the zxid of the last change, and its limits
pub record Tree : Type 0 where
  pub nodes : Nodes
  pub sessions : Sessions
  pub time : ℕ
  pub zxid : ℕ
  pub limits : TreeLimits

-- a new node: its data, its owner (0: none), its term, the zxid and the tick of its creation
abbrev pub new_node : List ℕ → ℕ → Term → ℕ → ℕ → Node
new_node bytes owner term z time =
    record {
      bytes = bytes;
      czxid = z;
      mzxid = z;
      pzxid = z;
      ctime = time;
      mtime = time;
      version = 0;
      cversion = 0;
      aversion = 0;
      owner = owner;
      seq = 0;
      term = term;
    }

-- the initial state within these limits: only the root, with no data and all zeros, and no session
abbrev pub opening_within : TreeLimits → Tree
opening_within limits =
    record {
      nodes = insert finite.empty [] (new_node [] 0 Unlimited 0 0);
      sessions = finite.empty;
      time = 0;
      zxid = 0;
      limits = limits;
    }

-- the initial state within the limits of this project's profile
abbrev pub opening_tree : Tree
opening_tree = opening_within profile

-- the path without its last name; the root is its own parent
abbrev pub parent_of : Path → Path
parent_of [] = []
parent_of (n ∷ []) = []
parent_of (n ∷ (m ∷ path)) = n ∷ parent_of (m ∷ path)

-- the node exists
abbrev pub has_node : Nodes → Path → Bool
has_node nodes path = is_some (get nodes path)

-- the name of a path as a child of p: `Some` where the path is p with one more name
abbrev pub child_name : Path → Path → Option Name
child_name [] [] = None
child_name [] (n ∷ []) = Some n
child_name [] (n ∷ (m ∷ path)) = None
child_name (a ∷ p) [] = None
child_name (a ∷ p) (b ∷ path) = if bytes_eq a b then child_name p path else None

-- the names of the children, in byte order
abbrev pub children : Nodes → Path → List Name
children nodes p = filter_map (child_name p) (keys nodes)

-- the paths of the nodes that a session owns, in the order of paths
abbrev pub ephemerals : Nodes → ℕ → List Path
ephemerals nodes session = filter_map (λ e. if e.1.owner == session then Some e.0 else None) (entries nodes)

-- the owner that a stat shows, for a node of this owner and this term: a container shows a number
-- of its own
abbrev pub shown_by : ℕ → Term → ℕ
shown_by owner Unlimited = owner
shown_by owner (Timed ttl) = owner
shown_by owner Container = CONTAINER_OWNER

-- the stat of a node that has this many children
abbrev pub stat_with : Node → ℕ → Stat
stat_with n children =
    record {
      czxid = n.czxid;
      mzxid = n.mzxid;
      pzxid = n.pzxid;
      ctime = n.ctime;
      mtime = n.mtime;
      version = n.version;
      cversion = n.cversion;
      aversion = n.aversion;
      owner = shown_by n.owner n.term;
      length = length n.bytes;
      children = children;
    }

-- the stat of a node
abbrev pub stat_of : Nodes → Path → Node → Stat
stat_of nodes p n = stat_with n (length (children nodes p))

-- the stat of the node at the path, if it exists
abbrev pub stat_at : Nodes → Path → Option Stat
stat_at nodes p = option_map (stat_of nodes p) (get nodes p)

-- the node after change z created a child of it
abbrev pub with_child : ℕ → Bool → Node → Node
with_child z sequential n =
    record n { pzxid = z; cversion = n.cversion + 1; seq = n.seq + (if sequential then 1 else 0) }

-- the nodes with the one at the path changed, if it exists
abbrev pub with_change_at : Nodes → Path → (Node → Node) → Nodes
with_change_at nodes p f = option_map_or (λ n. insert nodes p (f n)) (get nodes p) nodes

-- the tree after the next change creates a node: the node is added, and its parent's fields for its
-- children are updated
abbrev pub with_node : Tree → Path → List ℕ → ℕ → Term → Bool → Tree
with_node t path bytes owner term sequential =
    record t {
      nodes =
          with_change_at (insert t.nodes path (new_node bytes owner term (t.zxid + 1) t.time)) (parent_of path)
          (with_child (t.zxid + 1) sequential);
    }

-- the node after change z removed a child of it
abbrev pub without_child : ℕ → Node → Node
without_child z n = record n { pzxid = z; cversion = n.cversion + 1 }

-- the tree after the next change removes a node: the node is gone, and its parent's fields for its
-- children are updated
abbrev pub without_node : Tree → Path → Tree
without_node t path = record t { nodes = with_change_at (remove t.nodes path) (parent_of path) (without_child (t.zxid + 1)) }

-- the node after change z wrote its data at a tick
abbrev pub with_data : List ℕ → ℕ → ℕ → Node → Node
with_data bytes z time n = record n { bytes = bytes; mzxid = z; mtime = time; version = n.version + 1 }

-- the tree after the next change writes the data of the node at the path
abbrev pub with_data_at : Tree → Path → List ℕ → Tree
with_data_at t path bytes = record t { nodes = with_change_at t.nodes path (with_data bytes (t.zxid + 1) t.time) }

-- the node after a write of its access control list, which stays the open one
abbrev pub with_acl : Node → Node
with_acl n = record n { aversion = n.aversion + 1 }

-- the tree after a write of the access control list of the node at the path
abbrev pub with_acl_at : Tree → Path → Tree
with_acl_at t path = record t { nodes = with_change_at t.nodes path with_acl }

-- the tree with the zxid one higher
abbrev pub with_next_zxid : Tree → Tree
with_next_zxid t = record t { zxid = t.zxid + 1 }
