use Rattle.std.proofs.Common.{◌≡◌}
use Rattle.zchannels.specs.HaltSeats.{IsSeatOf}
use Rattle.zrun_tests.proofs.halt_bits.wait_for.Given as goal

abbrev pub invariant-loop : goal.invariant-loop
invariant-loop l = IsSeatOf l.halt l.seat × (l.halt ≡ l.initial.halt)
