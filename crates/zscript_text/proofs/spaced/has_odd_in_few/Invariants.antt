use Rattle.zscript_text.proofs.OddPairs.{NoneOddBefore}
use Rattle.zscript_text.proofs.spaced.has_odd_in_few.Given as goal

abbrev pub invariant-loop-at : goal.invariant-loop-at
invariant-loop-at l = NoneOddBefore l.line l.at
