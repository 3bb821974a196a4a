use Rattle.std.proofs.Common.{◌≡◌, drop}
use Rattle.zrequests.specs.Asking.{each_in, each_behind}
use Rattle.zrequests.specs.Requests.{look_in}
use Rattle.zrequests.proofs.lists.looks_of.Given as goal

abbrev pub invariant-loop-look : goal.invariant-loop-look
invariant-loop-look l = each_in look_in l.looks ≡ each_behind l.calls.items look_in (drop l.look-index l.looks)
