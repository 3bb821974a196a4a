-- The trees that a front may begin with: those that are settled. This is this project's profile.
use Rattle.ztree.specs.declared.limits.TreeLimits.{TreeLimits}
use Rattle.ztree.specs.Limits.{AreLimits}
use Rattle.ztree.specs.Tree.{Tree, opening_within}
use Rattle.zops.specs.RestoredLaws.{IsSettled}
use Rattle.zprotocol.specs.world.FromTree.{CanStart}

-- the initial tree is settled, within any limits that a tree can have
abbrev pub InitialTreesAreSettled : Type 0
InitialTreesAreSettled = (limits : TreeLimits) → AreLimits limits → IsSettled (opening_within limits)

-- a service can begin with a settled tree
abbrev pub SettledTreesCanStart : Type 0
SettledTreesCanStart = (t : Tree) → IsSettled t → CanStart t
