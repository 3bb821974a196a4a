use Rattle.std.proofs.Common.{arith}
use Rattle.zchannels.proofs.Stays.{sees}
use Rattle.zchannels.proofs.halts.Halt.look.Goals as goal

pub load-requires : goal.load-requires
load-requires c =
    let t = c.args.self.now in
    let p = c.args.seat.now.seat in (
      c.requires.own,
      (let h = t.one_word in omega arith),
      sees t.table.shared.key t.table.shared.table_id.slots p.id p.me.0 p.me.1 c.args.seat.now.one,
    )
