use Rattle.std.proofs.Common.{rules}
use Rattle.zjournal.specs.Device.{Cut}
use Rattle.zjournal.proofs.Moments.{call_leaves, synced_leaves}
use Rattle.zjournal.proofs.Steps.{cut_nothing}
use Rattle.zjournal.proofs.commit_bytes.cut_synced.Goals as goal

pub returns-in_err-cut-clause-any_moment : goal.returns-in_err-cut-clause-any_moment
returns-in_err-cut-clause-any_moment g c =
    call_leaves g.D.Device.moment g.D.Device.left_since g.D.Device.may_leave (g.D.Device.seen c.args.device.now)
    (Cut c.args.len) c.args.device.now c.requires.durable (g.met.D.Device.only_now c.args.device.now)
    (cut_nothing c.args.len (g.D.Device.seen c.args.device.now))
    c.cut.new.self c.cut.ensures.crash c.cut.ensures.time

pub returns-in_err-sync-clause-any_moment : goal.returns-in_err-sync-clause-any_moment
returns-in_err-sync-clause-any_moment g c =
    synced_leaves g.D.Device.moment g.D.Device.left_since g.D.Device.may_leave (g.D.Device.seen c.args.device.now)
    (Cut c.args.len) c.args.device.now c.requires.durable (g.met.D.Device.only_now c.args.device.now)
    (cut_nothing c.args.len (g.D.Device.seen c.args.device.now))
    c.cut.new.self c.sync.new.self c.cut.ensures.crash c.cut.ensures.time c.sync.ensures.crash c.sync.ensures.time

pub returns-clause-any_moment : goal.returns-clause-any_moment
returns-clause-any_moment g c =
    synced_leaves g.D.Device.moment g.D.Device.left_since g.D.Device.may_leave (g.D.Device.seen c.args.device.now)
    (Cut c.args.len) c.args.device.now c.requires.durable (g.met.D.Device.only_now c.args.device.now)
    (cut_nothing c.args.len (g.D.Device.seen c.args.device.now))
    c.cut.new.self c.sync.new.self c.cut.ensures.crash c.cut.ensures.time c.sync.ensures.crash c.sync.ensures.time

pub returns-clause-durable : goal.returns-clause-durable
returns-clause-durable g c = search rules
