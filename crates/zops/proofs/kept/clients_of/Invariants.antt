use Rattle.std.proofs.Common.{◌≡◌, take}
use Rattle.zops.specs.support.Places.{clients_from}
use Rattle.zops.proofs.kept.clients_of.Given as goal

abbrev pub invariant-loop-number : goal.invariant-loop-number
invariant-loop-number l = l.clients.items ≡ clients_from 0 (take l.number l.places)
