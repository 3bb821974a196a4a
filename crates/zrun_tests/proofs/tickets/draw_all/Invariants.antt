use Rattle.std.proofs.Common.{◌≡◌}
use Rattle.zchannels.specs.Passes.{IsPassOf}
use Rattle.zrun_tests.proofs.tickets.draw_all.Given as goal

abbrev pub invariant-loop : goal.invariant-loop
invariant-loop l = IsPassOf l.tickets l.pass × (l.tickets ≡ l.initial.tickets)
