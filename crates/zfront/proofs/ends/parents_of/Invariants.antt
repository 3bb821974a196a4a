use Rattle.std.proofs.Common.{◌≡◌, map, take}
use Rattle.ztree.specs.Tree.{parent_of}
use Rattle.zfront.proofs.ends.parents_of.Given as goal

abbrev pub invariant-loop-path : goal.invariant-loop-path
invariant-loop-path l = l.parents.items ≡ map parent_of (take l.path-index l.paths)
