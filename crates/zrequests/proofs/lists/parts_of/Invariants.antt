use Rattle.std.proofs.Common.{◌≡◌, ◌++◌, drop}
use Rattle.zrequests.specs.Requests.{parts_in}
use Rattle.zrequests.proofs.lists.parts_of.Given as goal

-- those so far and those of the parts that are left are all
abbrev pub invariant-loop-part : goal.invariant-loop-part
invariant-loop-part l = l.read.items ++ parts_in l.terms l.session (drop l.part-index l.parts) ≡ parts_in l.terms l.session l.parts
