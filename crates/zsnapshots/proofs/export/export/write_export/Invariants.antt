use Rattle.std.proofs.Common.{ℕ, List}
use Rattle.zsnapshots.proofs.export_lemmas.Counting.{IsWriting}
use Rattle.zsnapshots.proofs.export.export.write_export.Given as goal

-- the lines of the nodes that were gone over were written
abbrev pub invariant-loop-path : goal.invariant-loop-path
invariant-loop-path g l = (written : List ℕ) × g.K.Sink.took l.initial.sink written l.sink × g.K.Sink.failed l.initial.sink 0 l.sink
    × IsWriting l.machine.state.service.plain written l.path-iterator.rest.items
