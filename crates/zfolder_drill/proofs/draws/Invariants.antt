use Rattle.zfolder_drill.specs.Pair.{IsWhole}
use Rattle.zfolder_drill.proofs.draws.Given as goal

abbrev pub invariant-loop : goal.invariant-loop
invariant-loop l = IsWhole l.drill.pair
