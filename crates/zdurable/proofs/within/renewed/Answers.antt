use Rattle.std.proofs.Common.{sym, subst}
use Rattle.zjournal.specs.Device.{LeavesOnly}
use Rattle.zjournal.specs.Journal.{device_of}
use Rattle.zdurable.specs.Compaction.{IsOldOrTree}
use Rattle.zdurable.proofs.within.renewed.Goals as goal

pub returns-in-Ok-clause-kept : goal.returns-in-Ok-clause-kept
returns-in-Ok-clause-kept g c servers batches is_open rest = c.in-Ok.ensures.kept servers batches is_open rest

pub returns-in-Err-clause-any_moment_err : goal.returns-in-Err-clause-any_moment_err
returns-in-Err-clause-any_moment_err g c servers batches rest =
    subst (λ (d : g.row.D.Denot). LeavesOnly g.D.Device.moment g.D.Device.left_since (device_of c.args.journal) d
    (IsOldOrTree servers batches c.args.tree.now.tree))
    (sym c.into_device.ensures) (c.compact.ensures.any_moment servers batches rest)
