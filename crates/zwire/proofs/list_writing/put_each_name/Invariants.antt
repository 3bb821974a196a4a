use Rattle.std.proofs.Common.{◌≡◌, ◌++◌, take}
use Rattle.std.specs.List.{AllByRecursion, flat_map}
use Rattle.zwire.specs.Fields.{name}
use Rattle.zwire.proofs.list_writing.put_each_name.Given as goal

abbrev pub invariant-loop-name : goal.invariant-loop-name
invariant-loop-name l = record {
  text : l.out.items ≡ l.fn.out.items ++ flat_map name.spell (take l.name-index l.names);
  fit : AllByRecursion name.Fits (take l.name-index l.names);
}
