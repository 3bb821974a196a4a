use Rattle.znode.proofs.node_lemmas.Putting.{putting_begins, putting_more, putting_done}
use Rattle.znode.proofs.seat.Seat.put_all.Goals as goal

pub loop-to-init : goal.loop-to-init
loop-to-init c = putting_begins c.args.own c.args.out.now.posts c.args.self.now

pub loop-to-preserved : goal.loop-to-preserved
loop-to-preserved c =
    putting_more c.args.own c.args.out.now.posts c.loop-to.out.posts c.next.new.self.posts (c.in-Some.to, c.in-Some.message)
    c.args.self.now c.loop-to.self c.put.new.self c.loop-to.invariant c.in-Some.ensures.first c.in_ok-put.ensures

pub returns : goal.returns
returns c = putting_done c.args.own c.args.out.now.posts c.loop-to.out.posts c.args.self.now c.loop-to.self c.loop-to.invariant c.in_default.ensures.none
