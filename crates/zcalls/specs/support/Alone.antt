-- What parts of calls change: the nodes alone.
use Rattle.std.specs.Prelude.{◌≡◌}
use Rattle.ztree.specs.Tree.{Tree}

-- of two trees only the nodes differ: the zxid of the last change, the clock, the sessions and the
-- limits are the same
pub record ChangesNodesAlone (t u : Tree) : Type 0 where
  pub zxid : u.zxid ≡ t.zxid
  pub time : u.time ≡ t.time
  pub sessions : u.sessions ≡ t.sessions
  pub limits : u.limits ≡ t.limits
