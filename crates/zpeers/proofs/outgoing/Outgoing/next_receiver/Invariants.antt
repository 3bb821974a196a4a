use Rattle.zpeers.specs.Outgoing.{NoneWaits, place_after}
use Rattle.zpeers.proofs.outgoing.Outgoing.next_receiver.Given as goal

abbrev pub invariant-loop-place : goal.invariant-loop-place
invariant-loop-place l = NoneWaits l.self (place_after l.fn.after) l.place
