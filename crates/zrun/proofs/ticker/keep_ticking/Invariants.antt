use Rattle.zrun.specs.Clients.{SameClient}
use Rattle.zrun.specs.Ticks.{CountsTicks}
use Rattle.zrun.proofs.ticker.keep_ticking.Given as goal

abbrev pub invariant-loop : goal.invariant-loop
invariant-loop g l = SameClient l.fn.client l.client × CountsTicks l.fn.client l.client l.ticks
