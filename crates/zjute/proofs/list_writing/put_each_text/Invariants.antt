use Rattle.std.proofs.Common.{◌≡◌, ◌++◌, take}
use Rattle.std.specs.List.{flat_map}
use Rattle.zjute.specs.Jute.{text}
use Rattle.zjute.proofs.list_writing.put_each_text.Given as goal

abbrev pub invariant-loop-it : goal.invariant-loop-it
invariant-loop-it l = l.out.items ≡ l.fn.out.items ++ flat_map text.spell (take l.it-index l.texts)
