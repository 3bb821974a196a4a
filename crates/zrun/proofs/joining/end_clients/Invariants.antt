use Rattle.std.proofs.Common.{◌≡◌, ◌++◌}
use Rattle.zrun.specs.Clients.{IsLeftIn}
use Rattle.zrun.specs.Runs.{Pairs}
use Rattle.zrun.proofs.joining.end_clients.Given as goal

abbrev pub invariant-loop-place : goal.invariant-loop-place
invariant-loop-place l =
    (l.fn.clients.places.items ≡ l.yielded ++ l.place-iterator.rest.items)
    × Pairs IsLeftIn l.yielded l.endings.items
