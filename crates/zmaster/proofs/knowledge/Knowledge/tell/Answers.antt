use Rattle.std.proofs.Common.{ap, arith}
use Rattle.zprotocol.specs.master.View.{MasterView}
use Rattle.zprotocol.proofs.Posts.{put_one, put_more}
use Rattle.zmaster.proofs.Rows.{config_count, config_more}
use Rattle.zmaster.proofs.knowledge.Knowledge.tell.Goals as goal

pub put_reserved-requires : goal.put_reserved-requires
put_reserved-requires g c =
    let room = rw (← c.self.view_is) at c.requires in
    let reported = config_count g.row.T.Denot c.args.self.now c.loop-number.number in
    omega (arith, room, reported, c.loop-number.invariant.room)

pub loop-number-preserved : goal.loop-number-preserved
loop-number-preserved g c =
    let epoch = ap (λ (v : MasterView). v.epoch) c.self.view_is in
    let one = put_one _ _ _ _ c.put_reserved.ensures.put c.put_reserved.ensures.room in
    rw (config_more g.row.T.Denot c.args.self.now c.loop-number.number)
    (put_more _ _ _ _ _ c.loop-number.invariant (rw (c.in-Some.ensures.client.0, c.head.ensures, c.tail.ensures, epoch) at one))
