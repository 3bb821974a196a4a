use Rattle.std.proofs.Common.{◌≡◌, sym, ap, subst, ◌∙◌, Err}
use Rattle.std.specs.Prelude.{IsErrOf}
use Rattle.std.proofs.lemmas.Result.{err_from_is_err_and}
use Rattle.zjournal.specs.Device.{LeavesOnly}
use Rattle.zjournal.specs.Journal.{device_of}
use Rattle.zjournal.specs.Scan.{joined}
use Rattle.zjournal.proofs.Moments.{weaker}
use Rattle.zsnapshots.specs.folder.States.{after}
use Rattle.zsnapshots.specs.folder.Texts.{IsTextOf, snapshot_text}
use Rattle.zdurable.specs.declared.fault.DurableFault.TheVariants as ending
use Rattle.zdurable.specs.DurableFront.{disk_of, front_in, made_in}
use Rattle.zdurable.specs.Compaction.{IsOldOrTree, IsTooLong, KeepsEither}
use Rattle.zdurable.proofs.Leading.{leads_to}
use Rattle.zdurable.proofs.Renewing.{keeps_either, stays_old}
use Rattle.zdurable.proofs.Serving.{taken_serves}
use Rattle.zdurable.proofs.kept.DurableFront.compact.Goals as goal

pub returns-then-not-self-clause-any_moment : goal.returns-then-not-self-clause-any_moment
returns-then-not-self-clause-any_moment g c servers batches t serving =
    let old = c.args.self.now in
    let now = after t (made_in old) in
    weaker g.D.Device.moment g.D.Device.left_since (disk_of old) (disk_of old) (IsOldOrTree servers batches now) (KeepsEither servers t now)
    (stays_old g.D.Device.seen g.D.Device.may_leave g.D.Device.moment g.D.Device.left_since old.journal
    servers batches serving.rest (g.met.D.Device.only_now (disk_of old)) now)
    (keeps_either servers batches t now serving.text)

pub returns-in_err-compact-clause-any_moment : goal.returns-in_err-compact-clause-any_moment
returns-in_err-compact-clause-any_moment g c servers batches t serving =
    let old = c.args.self.now in
    let now = after t (made_in old) in
    let same = c.service.ensures ∙ leads_to t (front_in old) serving.has in
    weaker g.D.Device.moment g.D.Device.left_since (disk_of old) (device_of c.compact.new.journal)
    (IsOldOrTree servers batches now) (KeepsEither servers t now)
    (subst (λ u. LeavesOnly g.D.Device.moment g.D.Device.left_since (disk_of old) (device_of c.compact.new.journal)
    (IsOldOrTree servers batches u)) same (c.compact.ensures.any_moment servers batches serving.rest))
    (keeps_either servers batches t now serving.text)

pub returns-clause-any_moment : goal.returns-clause-any_moment
returns-clause-any_moment g c servers batches t serving =
    let old = c.args.self.now in
    let now = after t (made_in old) in
    let same = c.service.ensures ∙ leads_to t (front_in old) serving.has in
    weaker g.D.Device.moment g.D.Device.left_since (disk_of old) (device_of c.compact.new.journal)
    (IsOldOrTree servers batches now) (KeepsEither servers t now)
    (subst (λ u. LeavesOnly g.D.Device.moment g.D.Device.left_since (disk_of old) (device_of c.compact.new.journal)
    (IsOldOrTree servers batches u)) same (c.compact.ensures.any_moment servers batches serving.rest))
    (keeps_either servers batches t now serving.text)

pub returns-clause-kept : goal.returns-clause-kept
returns-clause-kept g c servers batches t is_open serving =
    let old = c.args.self.now in
    let same = c.service.ensures ∙ leads_to t (front_in old) serving.has in
    let next = c.in_ok-compact.ensures.kept servers batches serving.takes serving.rest in (
      next.0,
      taken_serves g.D.Device.seen g.D.Device.may_leave servers batches t old _ serving c.take_made.ensures.taken next.0 next.1
          c.in_ok-compact.ensures.open.1 (subst (λ u. IsTextOf u (joined next.0)) same next.3),
      next.2 ∙ ap snapshot_text same,
    )

pub returns-clause-sound : goal.returns-clause-sound
returns-clause-sound g c is_open =
    let old = c.args.self.now in
    let was = c.requires c.if-not-self.false in
    let same = c.service.ensures ∙ leads_to was.2 (front_in old) was.3.has in
    let next = c.in_ok-compact.ensures.kept was.0 was.1 was.3.takes was.3.rest in (
      was.0,
      next.0,
      after was.2 (made_in old),
      taken_serves g.D.Device.seen g.D.Device.may_leave was.0 was.1 was.2 old _ was.3 c.take_made.ensures.taken next.0 next.1
          c.in_ok-compact.ensures.open.1 (subst (λ u. IsTextOf u (joined next.0)) same next.3),
    )

pub returns-in_err-compact-clause-full : goal.returns-in_err-compact-clause-full
returns-in_err-compact-clause-full g c servers batches t serving is =
    let p = err_from_is_err_and c.from_residual.result c.from_residual.ensures.1 in
    let reported : Err p.0 ≡ Err ending.Full = subst (λ r. IsErrOf r ending.Full) p.1 is in
    let full : p.0 ≡ ending.Full = cc reported in
    let same = c.service.ensures ∙ leads_to t (front_in c.args.self.now) serving.has in
    subst (IsTooLong servers) same (c.in_err-compact.ensures.full servers batches serving.rest (ap Err (sym p.2 ∙ full)))
