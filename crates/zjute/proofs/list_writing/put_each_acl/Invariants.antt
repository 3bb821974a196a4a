use Rattle.std.proofs.Common.{◌≡◌, ◌++◌, take}
use Rattle.std.specs.List.{flat_map}
use Rattle.zjute.specs.Requests.{acl}
use Rattle.zjute.proofs.list_writing.put_each_acl.Given as goal

abbrev pub invariant-loop-it : goal.invariant-loop-it
invariant-loop-it l = l.out.items ≡ l.fn.out.items ++ flat_map acl.spell (take l.it-index l.acls)
