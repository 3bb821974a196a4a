use Rattle.std.proofs.Common.{length, rules}
use Rattle.zjournal.specs.Device.{Torn}
use Rattle.zjournal.proofs.Moments.{call_leaves, synced_leaves}
use Rattle.zjournal.proofs.Steps.{torn_nothing}
use Rattle.zjournal.proofs.commit_bytes.write_synced.Goals as goal

pub returns-in_err-write_at-clause-any_moment : goal.returns-in_err-write_at-clause-any_moment
returns-in_err-write_at-clause-any_moment g c =
    call_leaves g.D.Device.moment g.D.Device.left_since g.D.Device.may_leave (g.D.Device.seen c.args.device.now)
    (Torn c.args.at (length c.args.bytes.now)) c.args.device.now c.requires.durable (g.met.D.Device.only_now c.args.device.now)
    (torn_nothing c.args.at (length c.args.bytes.now) (g.D.Device.seen c.args.device.now))
    c.write_at.new.self c.write_at.ensures.crash c.write_at.ensures.time

pub returns-in_err-sync-clause-any_moment : goal.returns-in_err-sync-clause-any_moment
returns-in_err-sync-clause-any_moment g c =
    synced_leaves g.D.Device.moment g.D.Device.left_since g.D.Device.may_leave (g.D.Device.seen c.args.device.now)
    (Torn c.args.at (length c.args.bytes.now)) c.args.device.now c.requires.durable (g.met.D.Device.only_now c.args.device.now)
    (torn_nothing c.args.at (length c.args.bytes.now) (g.D.Device.seen c.args.device.now))
    c.write_at.new.self c.sync.new.self c.write_at.ensures.crash c.write_at.ensures.time c.sync.ensures.crash c.sync.ensures.time

pub returns-clause-any_moment : goal.returns-clause-any_moment
returns-clause-any_moment g c =
    synced_leaves g.D.Device.moment g.D.Device.left_since g.D.Device.may_leave (g.D.Device.seen c.args.device.now)
    (Torn c.args.at (length c.args.bytes.now)) c.args.device.now c.requires.durable (g.met.D.Device.only_now c.args.device.now)
    (torn_nothing c.args.at (length c.args.bytes.now) (g.D.Device.seen c.args.device.now))
    c.write_at.new.self c.sync.new.self c.write_at.ensures.crash c.write_at.ensures.time c.sync.ensures.crash c.sync.ensures.time

pub returns-clause-durable : goal.returns-clause-durable
returns-clause-durable g c = search rules
