use Rattle.zrun.specs.Clients.{SameClient}
use Rattle.zrace.proofs.runner.Runner.run.Given as goal

abbrev pub invariant-loop : goal.invariant-loop
invariant-loop l = SameClient l.fn.self.racer.client l.self.racer.client
