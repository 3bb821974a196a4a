use Rattle.std.proofs.Common.{◌≡◌, ◌≤◌, length, drop, map}
use Rattle.zjournal.specs.Checksum.{IsSum, sum_after_all}
use Rattle.zjournal.proofs.checksum.start_before.Given as goal

abbrev pub invariant-loop-at : goal.invariant-loop-at
invariant-loop-at l = record {
  within : l.at ≤ length l.texts;
  is_sum : IsSum l.sum;
  sum : sum_after_all l.sum (map (λ t. t.items) (drop l.at l.texts)) ≡ l.fn.sum;
}

abbrev pub decreases-loop-at : goal.decreases-loop-at
decreases-loop-at l = l.at
