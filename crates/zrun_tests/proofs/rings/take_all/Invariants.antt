use Rattle.std.proofs.Common.{◌≡◌, ◌≤◌}
use Rattle.zchannels.specs.Rings.{ring_of_rx}
use Rattle.zrun_tests.proofs.rings.take_all.Given as goal

abbrev pub invariant-loop : goal.invariant-loop
invariant-loop l = (ring_of_rx l.rx ≡ ring_of_rx l.fn.rx) × (l.in_order ≤ 1000)
