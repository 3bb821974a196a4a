use Rattle.std.proofs.Common.{◌≡◌, ◌++◌, drop}
use Rattle.std.specs.List.{flat_map}
use Rattle.zfront.specs.Front.{stale_by}
use Rattle.zfront.proofs.inner.Inner.add_stale.Given as goal

-- those so far and those of the calls that are left are all
abbrev pub invariant-loop-call : goal.invariant-loop-call
invariant-loop-call g l =
    l.paths.items ++ flat_map (stale_by l.self.tree) (drop l.call-index l.calls)
    ≡ l.initial.paths.items ++ flat_map (stale_by l.self.tree) l.calls
