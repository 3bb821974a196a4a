use Rattle.zrun.specs.Clients.{SameClient}
use Rattle.zrun_tests.proofs.leavings.set_fifty.Given as goal

abbrev pub invariant-loop-done : goal.invariant-loop-done
invariant-loop-done g l = SameClient l.fn.client l.client
