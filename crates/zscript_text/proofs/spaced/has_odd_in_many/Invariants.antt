use Rattle.std.proofs.Common.{◌-◌, ◌≤◌}
use Rattle.zscript_text.proofs.OddPairs.{NoneOddBefore}
use Rattle.zscript_text.proofs.spaced.has_odd_in_many.Given as goal

abbrev pub invariant-loop-at : goal.invariant-loop-at
invariant-loop-at l = record { within : l.at ≤ l.pairs; none : NoneOddBefore l.line l.at }

abbrev pub decreases-loop-at : goal.decreases-loop-at
decreases-loop-at l = l.pairs - l.at
