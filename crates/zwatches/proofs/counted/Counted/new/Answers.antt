use Rattle.std.proofs.Common.{sym, ap, subst, ◌∙◌}
use Rattle.std.specs.FinSet.{empty, len, len-empty}
use Rattle.zwatches.specs.Watches.{watch_cmp}
use Rattle.zwatches.specs.support.Shares.{AreCounted}
use Rattle.zwatches.proofs.Counts.{none_counted}
use Rattle.zwatches.proofs.counted.Counted.new.Goals as goal

pub invariant_of-result : goal.invariant_of-result
invariant_of-result c = (
  subst (λ t. AreCounted c.new-2.result t) (sym c.new.ensures) (subst (λ m. AreCounted m empty) (sym c.new-2.ensures) none_counted),
  sym (ap len c.new.ensures ∙ len-empty watch_cmp),
)
