use Rattle.zjournal.specs.Journal.{device_of}
use Rattle.zjournal.proofs.Moments.{weaker}
use Rattle.zdurable.specs.DurableFront.{KeepsTree}
use Rattle.zdurable.specs.Compaction.{IsOldOrTree}
use Rattle.zdurable.specs.Stored.{tree_of}
use Rattle.zdurable.proofs.Renewing.{keeps_tree}
use Rattle.zdurable.proofs.stored.Stored.compact.Goals as goal

pub returns-in_err-compact-clause-any_moment : goal.returns-in_err-compact-clause-any_moment
returns-in_err-compact-clause-any_moment g c servers batches stored =
    let old = c.args.self.now in
    weaker g.D.Device.moment g.D.Device.left_since (device_of old.journal) (device_of c.compact.new.journal)
    (IsOldOrTree servers batches (tree_of old)) (KeepsTree servers (tree_of old))
    (c.compact.ensures.any_moment servers batches stored.rest) (keeps_tree servers batches (tree_of old) stored.text)

pub returns-clause-any_moment : goal.returns-clause-any_moment
returns-clause-any_moment g c servers batches stored =
    let old = c.args.self.now in
    weaker g.D.Device.moment g.D.Device.left_since (device_of old.journal) (device_of c.compact.new.journal)
    (IsOldOrTree servers batches (tree_of old)) (KeepsTree servers (tree_of old))
    (c.compact.ensures.any_moment servers batches stored.rest) (keeps_tree servers batches (tree_of old) stored.text)

pub returns-clause-kept : goal.returns-clause-kept
returns-clause-kept g c servers batches stored =
    let next = c.in_ok-compact.ensures.kept servers batches stored.takes stored.rest in
    (next.0, record { rest = next.1; takes = c.in_ok-compact.ensures.open.1; whole = stored.whole; text = next.3 }, next.2)

pub returns-clause-good : goal.returns-clause-good
returns-clause-good g c =
    let was = c.requires in
    let next = c.in_ok-compact.ensures.kept was.0 was.1 was.2.takes was.2.rest in
    (was.0, next.0, record { rest = next.1; takes = c.in_ok-compact.ensures.open.1; whole = was.2.whole; text = next.3 })
