use Rattle.std.proofs.Common.{◌≤◌, drop, length}
use Rattle.std.specs.List.{AllByRecursion}
use Rattle.zworld.specs.links.support.Order.{IsBefore}
use Rattle.zworld.proofs.links.search.count_from.Given as goal

abbrev pub invariant-loop-count : goal.invariant-loop-count
invariant-loop-count g l = record {
  within : l.count ≤ length l.queues;
  before : AllByRecursion (λ queue. IsBefore queue l.from l.to) (drop l.count l.queues);
}

abbrev pub decreases-loop-count : goal.decreases-loop-count
decreases-loop-count g l = l.count
