use Rattle.std.proofs.Common.{arith}
use Rattle.zchannels.proofs.Fair.{draws}
use Rattle.zchannels.proofs.tickets.Tickets.draw.Goals as goal

pub fetch_add-found-requires : goal.fetch_add-found-requires
fetch_add-found-requires c =
    let t = c.args.self.now in
    let p = c.args.pass.now in (
      c.requires.own,
      (let h = t.one_word in omega arith),
      rw t.key (draws t.passes t.table.shared.table_id.slots p.seat.id p.seat.me.0 p.seat.me.1 t.few p.one c.requires.room),
    )
