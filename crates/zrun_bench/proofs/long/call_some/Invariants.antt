use Rattle.zrun.specs.Clients.{SameClient}
use Rattle.zrun_bench.proofs.long.call_some.Given as goal

abbrev pub invariant-loop-number : goal.invariant-loop-number
invariant-loop-number l = SameClient l.fn.client l.client
