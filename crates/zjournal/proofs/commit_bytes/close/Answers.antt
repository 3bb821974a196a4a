use Rattle.zjournal.proofs.Runs.{cut_leaves, close_leaves}
use Rattle.zjournal.proofs.Steps.{clear_commit_byte}
use Rattle.zjournal.proofs.commit_bytes.close.Goals as goal

pub returns-in_err-cut_synced-clause-any_moment : goal.returns-in_err-cut_synced-clause-any_moment
returns-in_err-cut_synced-clause-any_moment g c =
    cut_leaves g.D.Device.moment g.D.Device.left_since c.args.device.now c.cut_synced.new.device (g.D.Device.seen c.args.device.now)
    c.args.end c.requires.within c.cut_synced.ensures.any_moment

pub returns-in_err-write_synced-clause-any_moment : goal.returns-in_err-write_synced-clause-any_moment
returns-in_err-write_synced-clause-any_moment g c =
    close_leaves g.D.Device.moment g.D.Device.left_since c.args.device.now c.cut_synced.new.device (g.D.Device.seen c.args.device.now)
    c.args.end c.requires.within (g.D.Device.seen c.cut_synced.new.device)
    c.in_ok-cut_synced.ensures.cut c.cut_synced.ensures.any_moment c.write_synced.new.device c.write_synced.ensures.any_moment

pub returns-clause-any_moment : goal.returns-clause-any_moment
returns-clause-any_moment g c =
    close_leaves g.D.Device.moment g.D.Device.left_since c.args.device.now c.cut_synced.new.device (g.D.Device.seen c.args.device.now)
    c.args.end c.requires.within (g.D.Device.seen c.cut_synced.new.device)
    c.in_ok-cut_synced.ensures.cut c.cut_synced.ensures.any_moment c.write_synced.new.device c.write_synced.ensures.any_moment

pub returns-clause-closed : goal.returns-clause-closed
returns-clause-closed g c =
    clear_commit_byte (g.D.Device.seen c.args.device.now) c.args.end c.requires.within (g.D.Device.seen c.cut_synced.new.device)
    (g.D.Device.seen c.write_synced.new.device)
    c.in_ok-cut_synced.ensures.cut c.in_ok-write_synced.ensures.written
