use Rattle.zsnapshots.proofs.export_lemmas.Counting.{IsCounting}
use Rattle.zsnapshots.proofs.export.tally.counts.Given as goal

-- the nodes that weren't gone over are still to be counted
abbrev pub invariant-loop-path : goal.invariant-loop-path
invariant-loop-path l = IsCounting l.machine.state.service.plain l.counts l.path-iterator.rest.items
