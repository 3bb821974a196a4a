use Rattle.zrun.specs.Clients.{SameClient}
use Rattle.zrun_tests.proofs.tickers.outlive.Given as goal

abbrev pub invariant-loop : goal.invariant-loop
invariant-loop l = SameClient l.fn.client l.client
