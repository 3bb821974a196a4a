use Rattle.zrun.specs.Clients.{SameClient}
use Rattle.zrun_bench.proofs.long.call_all.Given as goal

abbrev pub invariant-loop-part : goal.invariant-loop-part
invariant-loop-part g l = SameClient l.fn.client l.client
