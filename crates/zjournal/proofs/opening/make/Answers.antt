use Rattle.zjournal.proofs.Runs.{clear_leaves, make_leaves}
use Rattle.zjournal.proofs.opening.make.Goals as goal

pub returns-in_err-close-clause-any_moment : goal.returns-in_err-close-clause-any_moment
returns-in_err-close-clause-any_moment g c =
    clear_leaves g.D.Device.moment g.D.Device.left_since c.args.device.now c.close.new.device (g.D.Device.seen c.args.device.now)
    c.args.servers c.requires.some c.requires.unmade c.close.ensures.any_moment

pub returns-clause-any_moment : goal.returns-clause-any_moment
returns-clause-any_moment g c =
    make_leaves g.D.Device.moment g.D.Device.left_since c.args.device.now c.close.new.device (g.D.Device.seen c.args.device.now)
    c.args.servers c.requires.some c.requires.unmade c.head_block.result
    c.head_block.ensures c.close.ensures.any_moment c.add_block.new.device c.add_block.ensures.any_moment
