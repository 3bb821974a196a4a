use Rattle.std.proofs.Common.{sym, subst}
use Rattle.zwatches.specs.Watches.{Watches}
use Rattle.zwatches.specs.support.Nested.{AreFound}
use Rattle.zwatches.proofs.Found.{none_found}
use Rattle.zwatches.proofs.watches.Watches.new.Goals as goal

pub invariant_of-result : goal.invariant_of-result
invariant_of-result c =
    let rows = c.new-2.result.paths.entries in
    subst (λ (t : Watches). AreFound rows t) (sym c.new.ensures) (none_found rows)
