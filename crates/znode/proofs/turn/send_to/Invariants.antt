use Rattle.std.proofs.Common.{◌≡◌}
use Rattle.znode.proofs.node_lemmas.Sending.{IsSending}
use Rattle.znode.proofs.turn.send_to.Given as goal

abbrev pub invariant-loop : goal.invariant-loop
invariant-loop l =
    IsSending l.own l.to l.initial.seat.outgoing l.seat.outgoing l.initial.out.items l.out.items l.counter
    × (l.seat ≡ record l.initial.seat { outgoing = l.seat.outgoing })
