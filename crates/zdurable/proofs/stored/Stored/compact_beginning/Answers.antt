use Rattle.std.proofs.Common.{◌∙◌, sym}
use Rattle.zjournal.specs.Journal.{device_of, start_of}
use Rattle.zdurable.specs.Stored.{tree_of}
use Rattle.zdurable.proofs.Parts.{may_replace}
use Rattle.zdurable.proofs.stored.Stored.compact_beginning.Goals as goal

pub returns-in_err-compact_beginning-clause-any_moment : goal.returns-in_err-compact_beginning-clause-any_moment
returns-in_err-compact_beginning-clause-any_moment g c servers batches stored =
    c.compact_beginning.ensures.any_moment servers batches stored.rest stored.text

pub returns-clause-any_moment : goal.returns-clause-any_moment
returns-clause-any_moment g c servers batches stored =
    c.compact_beginning.ensures.any_moment servers batches stored.rest stored.text

pub returns-clause-kept : goal.returns-clause-kept
returns-clause-kept g c servers batches stored =
    let old = c.args.self.now in
    let now = c.compact_beginning.new.journal in
    let done = c.in_ok-compact_beginning.ensures in
    let next = done.kept servers batches stored.rest in (
      next.0,
      record { rest = next.1; takes = done.open; whole = stored.whole; text = next.3 },
      next.2,
      may_replace g.D.Device.seen g.D.Device.may_leave servers (tree_of old) batches old.journal stored.rest stored.text
          (start_of now) next.1.place.is_sum next.0 next.1.texts next.3 (sym next.1.place.sum ∙ done.sum)
          (g.D.Device.seen (device_of now)) next.1.file,
    )

pub returns-clause-good : goal.returns-clause-good
returns-clause-good g c =
    let was = c.requires in
    let done = c.in_ok-compact_beginning.ensures in
    let next = done.kept was.0 was.1 was.2.rest in
    (was.0, next.0, record { rest = next.1; takes = done.open; whole = was.2.whole; text = next.3 })
