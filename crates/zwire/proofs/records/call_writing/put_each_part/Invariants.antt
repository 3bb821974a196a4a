use Rattle.std.proofs.Common.{◌≡◌, ◌++◌, take}
use Rattle.std.specs.List.{AllByRecursion, flat_map}
use Rattle.zwire.specs.records.Calls.{part}
use Rattle.zwire.proofs.records.call_writing.put_each_part.Given as goal

abbrev pub invariant-loop-part : goal.invariant-loop-part
invariant-loop-part l = record { text : l.out.items ≡ l.fn.out.items ++ flat_map part.spell (take l.part-index l.parts); fit : AllByRecursion part.Fits (take l.part-index l.parts) }
