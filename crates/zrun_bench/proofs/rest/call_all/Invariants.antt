use Rattle.zrun.specs.Clients.{SameClient}
use Rattle.zrun_bench.proofs.rest.call_all.Given as goal

abbrev pub invariant-loop : goal.invariant-loop
invariant-loop g l = SameClient l.fn.client l.client
