use Rattle.std.proofs.Common.{◌≡◌, ◌++◌, length}
use Rattle.zwire.specs.records.Records.{AllFit, text_of}
use Rattle.zwire.proofs.records.reading.records_in.Given as goal

abbrev pub invariant-loop-rest : goal.invariant-loop-rest
invariant-loop-rest l = record { fit : AllFit l.records.items; split : l.text ≡ text_of l.records.items ++ l.rest }

abbrev pub decreases-loop-rest : goal.decreases-loop-rest
decreases-loop-rest l = length l.rest
