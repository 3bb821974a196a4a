use Rattle.std.proofs.Common.{rules}
use Rattle.zjournal.proofs.Runs.{stage_leaves, add_leaves, block_added}
use Rattle.zjournal.proofs.commit_bytes.add_block.Goals as goal

pub returns-in_err-write_synced-clause-any_moment : goal.returns-in_err-write_synced-clause-any_moment
returns-in_err-write_synced-clause-any_moment g c =
    let run = stage_leaves g.D.Device.moment g.D.Device.left_since c.args.device.now c.write_synced.new.device
    (g.D.Device.seen c.args.device.now) c.args.commit_byte c.requires.closed c.args.block.now in
    search (rules, run)

pub returns-in_err-set_commit_byte-clause-any_moment : goal.returns-in_err-set_commit_byte-clause-any_moment
returns-in_err-set_commit_byte-clause-any_moment g c =
    add_leaves g.D.Device.moment g.D.Device.left_since c.args.device.now c.write_synced.new.device (g.D.Device.seen c.args.device.now)
    c.args.commit_byte c.requires.closed c.args.block.now (g.D.Device.seen c.write_synced.new.device)
    c.in_ok-write_synced.ensures.written c.write_synced.ensures.any_moment c.set_commit_byte.new.device c.set_commit_byte.ensures.any_moment

pub returns-clause-any_moment : goal.returns-clause-any_moment
returns-clause-any_moment g c =
    add_leaves g.D.Device.moment g.D.Device.left_since c.args.device.now c.write_synced.new.device (g.D.Device.seen c.args.device.now)
    c.args.commit_byte c.requires.closed c.args.block.now (g.D.Device.seen c.write_synced.new.device)
    c.in_ok-write_synced.ensures.written c.write_synced.ensures.any_moment c.set_commit_byte.new.device c.set_commit_byte.ensures.any_moment

pub returns-clause-added : goal.returns-clause-added
returns-clause-added g c =
    block_added (g.D.Device.seen c.args.device.now) c.args.commit_byte c.requires.closed c.args.block.now
    (g.D.Device.seen c.write_synced.new.device) (g.D.Device.seen c.set_commit_byte.new.device)
    c.in_ok-write_synced.ensures.written c.in_ok-set_commit_byte.ensures.open
