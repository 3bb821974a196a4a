use Rattle.zrun.specs.Clients.{SameClient}
use Rattle.zrun_tests.proofs.bells.hears_soon.Given as goal

abbrev pub invariant-loop : goal.invariant-loop
invariant-loop g l = SameClient l.fn.client l.client
