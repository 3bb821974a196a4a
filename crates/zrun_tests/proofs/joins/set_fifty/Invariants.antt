use Rattle.zrun.specs.Clients.{SameClient}
use Rattle.zrun_tests.proofs.joins.set_fifty.Given as goal

abbrev pub invariant-loop-done : goal.invariant-loop-done
invariant-loop-done l = SameClient l.fn.client l.client
