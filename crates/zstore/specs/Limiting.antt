-- Why a tree doesn't fit within limits. The limits are this project's.
use Rattle.std.specs.Prelude.{◌≡◌, ℕ, ◌<◌, Some}
use Rattle.std.specs.FinMap as finite
use Rattle.ztree.specs.declared.limits.TreeLimits.{TreeLimits}
use Rattle.ztree.specs.declared.session.Session.{Session}
use Rattle.ztree.specs.Limits.{AreLimits}
use Rattle.ztree.specs.Tree.{Tree}
use Rattle.zstore.specs.declared.limit_fault.LimitFault.{LimitFault}
use Rattle.zstore.specs.declared.limit_fault.LimitFault.TheVariants as fault

-- a session of the tree has this timeout, which is above the limit
abbrev pub HasTimeout : Tree → TreeLimits → ℕ → Type 0
HasTimeout t limits ticks =
    (id : ℕ) × (s : Session) × (finite.get t.sessions id ≡ Some s) × (s.timeout ≡ ticks)
    × (limits.timeout < ticks)

-- The fault says why the tree doesn't fit: no tree can have these limits, or it has more nodes or
-- sessions, so many, or a session has a greater timeout, which is named.
abbrev pub IsFaultOf : Tree → TreeLimits → LimitFault → Type 0
IsFaultOf t limits fault.NotLimits = AreLimits limits → ⊥
IsFaultOf t limits (fault.Nodes count) = (count ≡ finite.len t.nodes) × (limits.nodes < count)
IsFaultOf t limits (fault.Sessions count) =
    (count ≡ finite.len t.sessions) × (limits.sessions < count)
IsFaultOf t limits (fault.Timeout ticks) = HasTimeout t limits ticks
IsFaultOf t limits fault.Memory = Unit {0}
