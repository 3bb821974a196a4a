use Rattle.std.proofs.Common.{◌≡◌, ◌++◌}
use Rattle.zsnapshots.specs.folder.Entries.{records_of}
use Rattle.zdurable.proofs.writing.records_of.Given as goal

-- so far the records are those of what was gone over
abbrev pub invariant-loop-update : goal.invariant-loop-update
invariant-loop-update l = (l.fn.updates.items ≡ l.yielded ++ l.update-iterator.rest.items) × (l.records.items ≡ records_of l.yielded)
