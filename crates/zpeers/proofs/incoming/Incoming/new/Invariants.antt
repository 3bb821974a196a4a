use Rattle.std.proofs.Common.{◌≡◌, None, replicate}
use Rattle.zpeers.proofs.incoming.Incoming.new.Given as goal

abbrev pub invariant-loop : goal.invariant-loop
invariant-loop l = l.slots.items ≡ replicate l.counter None
