-- Bounds on the numbers in a tree.
use Rattle.std.specs.Prelude.{ℕ, ◌+◌, ◌*◌, ◌<◌, ◌≤◌}
use Rattle.ztree.specs.Tree.{Tree}
use Rattle.ztree.specs.declared.limits.TheConstants.{ZXID_BOUND, TICK_BOUND, MIN_TIMEOUT}
use Rattle.zcalls.specs.declared.limits.TheConstants.{MAX_COUNTER, MAX_RAISES}
use Rattle.ztree.specs.Lawful.{AllNodes, AllSessions}
use Rattle.ztree.specs.declared.node.Node.{Node}
use Rattle.ztree.specs.declared.session.Session.{Session}

-- the node's versions are at most this number of raises; its counter has a limit of its own
pub record IsWithin (raises : ℕ) (n : Node) : Type 0 where
  pub version : n.version ≤ raises
  pub cversion : n.cversion ≤ raises
  pub aversion : n.aversion ≤ raises
  pub seq : n.seq ≤ MAX_COUNTER + 1

-- a session's id is the zxid of a change that was made, and its timeout is in the granted range
pub record IsGranted (greatest zxid id : ℕ) (s : Session) : Type 0 where
  pub before : id ≤ zxid
  pub least : MIN_TIMEOUT ≤ s.timeout
  pub most : s.timeout ≤ greatest

-- Every number of the tree leaves room for one more change. One change raises a counter of a node
-- at most `MAX_RAISES` times.
pub record IsBounded (t : Tree) : Type 0 where
  pub zxid : t.zxid < ZXID_BOUND
  pub time : t.time < TICK_BOUND
  pub counters : AllNodes (IsWithin (MAX_RAISES * t.zxid)) t.nodes
  pub sessions : AllSessions (IsGranted t.limits.timeout t.zxid) t.sessions
