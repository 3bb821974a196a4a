use Rattle.std.proofs.Common.{◌≡◌, ◌<◌, ◌≤◌, length, drop}
use Rattle.zjournal.specs.Checksum.{adler_from}
use Rattle.zjournal.proofs.checksum.sum_before.Given as goal

abbrev pub invariant-loop-at : goal.invariant-loop-at
invariant-loop-at l = record {
  within : l.at ≤ length l.text;
  sum : adler_from l.a l.b (drop l.at l.text) ≡ l.fn.sum;
  first : l.a < 65521;
  second : l.b < 65521;
}

abbrev pub decreases-loop-at : goal.decreases-loop-at
decreases-loop-at l = l.at
