use Rattle.zjournal.proofs.Renewals.{untouched_both, open_block_added}
use Rattle.zjournal.proofs.beside.add_open_block.Goals as goal

pub returns-in_err-add-2-clause-untouched : goal.returns-in_err-add-2-clause-untouched
returns-in_err-add-2-clause-untouched g c =
    untouched_both g.D.Device.seen g.D.Device.may_leave g.D.Device.moment g.D.Device.left_since c.args.device.now
    c.add.new.device c.add-2.new.device c.add.ensures.untouched c.add-2.ensures.untouched

pub returns-clause-untouched : goal.returns-clause-untouched
returns-clause-untouched g c =
    untouched_both g.D.Device.seen g.D.Device.may_leave g.D.Device.moment g.D.Device.left_since c.args.device.now
    c.add.new.device c.add-2.new.device c.add.ensures.untouched c.add-2.ensures.untouched

pub returns-clause-added : goal.returns-clause-added
returns-clause-added g c held is =
    open_block_added (g.D.Device.beside c.args.device.now) (g.D.Device.beside c.add.new.device) (g.D.Device.beside c.add-2.new.device)
    held c.args.block.now is c.in_ok-add.ensures.added c.in_ok-add-2.ensures.added
