use Rattle.std.proofs.Common.{◌≡◌}
use Rattle.zchannels.specs.Rings.{ring_of_tx}
use Rattle.zrun_tests.proofs.rings.flush_all.Given as goal

abbrev pub invariant-loop : goal.invariant-loop
invariant-loop l = ring_of_tx l.tx ≡ ring_of_tx l.fn.tx
