use Rattle.zjournal.proofs.Renewals.{taking_not, taking}
use Rattle.zjournal.proofs.beside.close_and_take.Goals as goal

pub returns-in_err-add-clause-any_moment : goal.returns-in_err-add-clause-any_moment
returns-in_err-add-clause-any_moment g c =
    taking_not g.D.Device.seen g.D.Device.may_leave g.D.Device.moment g.D.Device.left_since c.args.device.now c.add.new.device
    (g.D.Device.beside c.args.device.now) c.add.ensures.untouched

pub returns-in_err-take_place-clause-any_moment : goal.returns-in_err-take_place-clause-any_moment
returns-in_err-take_place-clause-any_moment g c =
    taking g.D.Device.seen g.D.Device.may_leave g.D.Device.moment g.D.Device.left_since c.args.device.now c.add.new.device
    c.take_place.new.self (g.D.Device.beside c.args.device.now) (g.D.Device.beside c.add.new.device)
    c.add.ensures.untouched c.in_ok-add.ensures.added c.take_place.ensures.crash c.take_place.ensures.time

pub returns-clause-any_moment : goal.returns-clause-any_moment
returns-clause-any_moment g c =
    taking g.D.Device.seen g.D.Device.may_leave g.D.Device.moment g.D.Device.left_since c.args.device.now c.add.new.device
    c.take_place.new.self (g.D.Device.beside c.args.device.now) (g.D.Device.beside c.add.new.device)
    c.add.ensures.untouched c.in_ok-add.ensures.added c.take_place.ensures.crash c.take_place.ensures.time
