-- Laws of other limits. Each is the contract of a function in `src/laws.rt`.
use Rattle.std.specs.Prelude.{ℕ, List}
use Rattle.ztree.specs.declared.limits.TreeLimits.{TreeLimits}
use Rattle.ztree.specs.Tree.{Tree}
use Rattle.ztree.specs.Lawful.{IsLawful}
use Rattle.zstore.specs.Restored.{with_limits, FitsWithin}
use Rattle.zcalls.specs.declared.call.Update.{Update}
use Rattle.zcalls.specs.Bounds.{IsBounded}
use Rattle.zcalls.specs.CallRuns.{after_calls}

-- a tree that fits within other limits still fits within them after any calls
abbrev pub CallsStayWithin : Type 0
CallsStayWithin =
    (t : Tree) (limits : TreeLimits) (calls : List (ℕ × Update)) → IsLawful t → IsBounded t →
    FitsWithin t limits → FitsWithin (after_calls (with_limits t limits) calls) limits
