use Rattle.std.proofs.Common.{◌≡◌, take}
use Rattle.std.specs.List.{AllByRecursion}
use Rattle.std.specs.FinMap.{keys}
use Rattle.zstore.specs.support.Timeouts.{HasTimeoutWithin}
use Rattle.zstore.proofs.store.Store.are_timeouts_within.Given as goal

-- the sessions looked at so far are within the limit
abbrev pub invariant-loop-id : goal.invariant-loop-id
invariant-loop-id l = record {
  all : l.id-items ≡ keys l.self.tree.sessions;
  within : AllByRecursion (HasTimeoutWithin l.self.tree.sessions l.limits.timeout)
      (take l.id-index l.id-items);
}
