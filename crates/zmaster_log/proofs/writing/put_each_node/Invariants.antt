use Rattle.std.proofs.Common.{◌≡◌, ◌++◌, take}
use Rattle.std.specs.List.{AllByRecursion, flat_map}
use Rattle.zmaster_log.specs.Bytes.{node}
use Rattle.zmaster_log.proofs.writing.put_each_node.Given as goal

abbrev pub invariant-loop-name : goal.invariant-loop-name
invariant-loop-name l = record {
  text : l.out.items ≡ l.fn.out.items ++ flat_map node.spell (take l.name-index l.names);
  fit : AllByRecursion node.Fits (take l.name-index l.names);
}
