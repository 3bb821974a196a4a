use Rattle.zfolder_drill.specs.Pair.{IsWhole}
use Rattle.zfolder_drill.proofs.drilled.Given as goal

abbrev pub invariant-loop-line : goal.invariant-loop-line
invariant-loop-line l =
    (goal.iterator-loop-line).can_next l.line-iterator
    × (goal.iterator-loop-line).is_finite l.line-iterator
    × IsWhole l.drill.pair
