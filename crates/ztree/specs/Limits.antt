-- The limits of a tree. They are chosen when it begins. The source is the ZooKeeper Administrator's
-- Guide, "Advanced Configuration" (minSessionTimeout, maxSessionTimeout: 2 and 20 ticks unless
-- chosen). The other limits are this project's.
use Rattle.std.specs.Prelude.{◌<◌, ◌≤◌}
use Rattle.ztree.specs.declared.limits.TreeLimits.{TreeLimits}
use Rattle.ztree.specs.declared.limits.TheConstants.{MAX_NODES, MAX_SESSIONS, MAX_TIMEOUT, MIN_TIMEOUT, MOST_NODES, MOST_SESSIONS, MOST_TIMEOUT}

-- the limits of this project's profile
abbrev pub profile : TreeLimits
profile = record { nodes = MAX_NODES; sessions = MAX_SESSIONS; timeout = MAX_TIMEOUT }

-- A tree can have these limits. It has room for the root, and a timeout that can be granted.
pub record AreLimits (l : TreeLimits) : Type 0 where
  pub some_nodes : 0 < l.nodes
  pub few_nodes : l.nodes ≤ MOST_NODES
  pub few_sessions : l.sessions ≤ MOST_SESSIONS
  pub least_timeout : MIN_TIMEOUT ≤ l.timeout
  pub most_timeout : l.timeout ≤ MOST_TIMEOUT
