use Rattle.std.proofs.Common.{inl, inr}
use Rattle.zdaemon.proofs.program.do_task.Goals as goal

pub returns-in_ok-compact-in-Compact : goal.returns-in_ok-compact-in-Compact
returns-in_ok-compact-in-Compact g c =
    rw c.in-Compact.is (c.in_ok-device-in-Compact.device, c.in_ok-device-in-Compact.ensures.opened, c.in_ok-compact-in-Compact.ensures.compacted)

pub returns-in_ok-compact_beginning-in-Some : goal.returns-in_ok-compact_beginning-in-Some
returns-in_ok-compact_beginning-in-Some g c =
    let opened = c.in_ok-device-in-Beginning.ensures in
    rw c.in-Beginning.is (inr (
      c.in-Some.device,
      (rw c.in-Some.is at opened.mode, rw c.in-Some.is at opened.fresh),
      c.in_ok-compact_beginning-in-Some.ensures.compacted,
    ))

pub returns-in-None : goal.returns-in-None
returns-in-None g c = rw c.in-Beginning.is (inl (g.met.K.Sink.took_nothing c.args.sink.now))

pub returns-in_ok-export-in-Export : goal.returns-in_ok-export-in-Export
returns-in_ok-export-in-Export g c =
    let done = c.in_ok-export-in-Export.ensures in
    rw c.in-Export.is (c.in_ok-device-in-Export.device, c.export.new.device, c.in_ok-device-in-Export.ensures.opened, done.exported, done.seen)

pub returns-in_ok-stat-in-Stat : goal.returns-in_ok-stat-in-Stat
returns-in_ok-stat-in-Stat g c =
    let done = c.in_ok-stat-in-Stat.ensures in
    rw c.in-Stat.is (c.in_ok-device-in-Stat.device, c.stat.new.device, c.in_ok-device-in-Stat.ensures.opened, done.reported, done.seen)
