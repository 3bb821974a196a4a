use Rattle.std.proofs.Common.{◌≡◌}
use Rattle.znode.proofs.node_lemmas.Sending.{IsSendingAll}
use Rattle.znode.proofs.turn.send_all.Given as goal

abbrev pub invariant-loop-place : goal.invariant-loop-place
invariant-loop-place l =
    IsSendingAll l.own l.initial.seat.outgoing l.seat.outgoing l.initial.out.items l.out.items l.place
    × (l.seat ≡ record l.initial.seat { outgoing = l.seat.outgoing })
