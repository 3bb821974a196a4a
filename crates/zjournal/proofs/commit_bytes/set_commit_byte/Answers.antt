use Rattle.std.proofs.Common.{rules}
use Rattle.zjournal.proofs.Runs.{open_leaves}
use Rattle.zjournal.proofs.Steps.{opened_commit_byte}
use Rattle.zjournal.proofs.commit_bytes.set_commit_byte.Goals as goal

pub returns-in_err-write_synced-clause-any_moment : goal.returns-in_err-write_synced-clause-any_moment
returns-in_err-write_synced-clause-any_moment g c =
    open_leaves g.D.Device.moment g.D.Device.left_since c.args.device.now c.write_synced.new.device (g.D.Device.seen c.args.device.now)
    c.args.commit_byte c.requires.within c.write_synced.ensures.any_moment

pub returns-clause-any_moment : goal.returns-clause-any_moment
returns-clause-any_moment g c =
    open_leaves g.D.Device.moment g.D.Device.left_since c.args.device.now c.write_synced.new.device (g.D.Device.seen c.args.device.now)
    c.args.commit_byte c.requires.within c.write_synced.ensures.any_moment

pub returns-clause-open : goal.returns-clause-open
returns-clause-open g c =
    let open_now = opened_commit_byte (g.D.Device.seen c.args.device.now) c.args.commit_byte c.requires.within (g.D.Device.seen c.write_synced.new.device) in
    search (rules, open_now)
