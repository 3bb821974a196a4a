use Rattle.std.proofs.Common.{length}
use Rattle.znode.proofs.node_lemmas.Putting.{IsPutting}
use Rattle.znode.proofs.seat.Seat.put_all.Given as goal

abbrev pub invariant-loop-to : goal.invariant-loop-to
invariant-loop-to l = IsPutting l.own l.initial.out.posts l.out.posts l.initial.self l.self

abbrev pub decreases-loop-to : goal.decreases-loop-to
decreases-loop-to l = length l.out.posts
