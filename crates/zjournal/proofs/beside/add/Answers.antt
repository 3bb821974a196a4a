use Rattle.zjournal.proofs.Renewals.{untouched_call}
use Rattle.zjournal.proofs.beside.add.Goals as goal

pub returns-clause-untouched : goal.returns-clause-untouched
returns-clause-untouched g c =
    untouched_call g.D.Device.seen g.D.Device.may_leave g.D.Device.moment g.D.Device.left_since c.args.device.now
    c.add_beside.new.self c.requires.durable (g.met.D.Device.only_now c.args.device.now)
    c.add_beside.ensures.seen c.add_beside.ensures.crash c.add_beside.ensures.time
