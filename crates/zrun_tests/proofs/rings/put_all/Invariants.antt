use Rattle.std.proofs.Common.{◌≡◌}
use Rattle.zchannels.specs.Rings.{ring_of_tx}
use Rattle.zrun_tests.proofs.rings.put_all.Given as goal

abbrev pub invariant-loop-number : goal.invariant-loop-number
invariant-loop-number l = ring_of_tx l.tx ≡ ring_of_tx l.fn.tx
