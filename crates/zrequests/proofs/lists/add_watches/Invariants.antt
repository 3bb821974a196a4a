use Rattle.std.proofs.Common.{◌≡◌, drop}
use Rattle.zrequests.specs.Asking.{each_behind}
use Rattle.zrequests.specs.Requests.{watch_in}
use Rattle.zrequests.proofs.lists.add_watches.Given as goal

abbrev pub invariant-loop-path : goal.invariant-loop-path
invariant-loop-path l =
    each_behind l.initial.calls.items watch_in l.paths ≡ each_behind l.calls.items watch_in (drop l.path-index l.paths)
