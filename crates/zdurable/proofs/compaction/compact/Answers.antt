use Rattle.std.proofs.Common.{◌≡◌, [], ◌∷◌, ◌++◌, arith, sym, ap, subst, ◌∙◌, Err}
use Rattle.std.specs.Prelude.{IsErrOf}
use Rattle.std.proofs.lemmas.Result.{err_from_is_err_and}
use Rattle.zjournal.specs.Journal.{device_of}
use Rattle.zdurable.specs.declared.fault.DurableFault.TheVariants as ending
use Rattle.zdurable.proofs.Opening.{full_is}
use Rattle.zdurable.proofs.Renewing.{begun, chunk_shorter, goes_on, leaves_old, no_chunk, one_chunk, replaces}
use Rattle.zdurable.proofs.Renewing.{stays_old, text_is, text_keeps, too_long, untouched_more}
use Rattle.zdurable.proofs.compaction.compact.Goals as goal

pub returns-in_err-text-clause-any_moment : goal.returns-in_err-text-clause-any_moment
returns-in_err-text-clause-any_moment g c servers batches rest =
    stays_old g.D.Device.seen g.D.Device.may_leave g.D.Device.moment g.D.Device.left_since
    c.args.journal.now servers batches rest
    (g.met.D.Device.only_now (device_of c.args.journal.now)) c.args.tree.now.tree

pub returns-in_err-begin_renewal-clause-any_moment : goal.returns-in_err-begin_renewal-clause-any_moment
returns-in_err-begin_renewal-clause-any_moment g c servers batches rest =
    leaves_old g.D.Device.seen g.D.Device.may_leave g.D.Device.moment g.D.Device.left_since c.args.journal.now servers batches rest
    c.begin_renewal.new.self (c.begin_renewal.ensures.untouched servers batches rest) c.args.tree.now.tree

pub loop-text-init : goal.loop-text-init
loop-text-init g c = (
  [],
  begun g.D.Device.seen g.D.Device.may_leave g.D.Device.beside g.D.Device.moment g.D.Device.left_since 1
      c.args.journal.now c.begin_renewal.new.self c.in_ok-begin_renewal.ensures.open.0 c.in_ok-begin_renewal.ensures.open.1
      c.in_ok-begin_renewal.ensures.renewing c.in_ok-begin_renewal.ensures.start c.in_ok-begin_renewal.ensures.begun
      c.begin_renewal.ensures.untouched,
  no_chunk c.args.tree.now.tree c.in_ok-text.text c.in_ok-text.ensures.begun,
  c.begin_renewal.ensures.faults,
)

pub returns-in_err-chunk-clause-any_moment : goal.returns-in_err-chunk-clause-any_moment
returns-in_err-chunk-clause-any_moment g c servers batches rest =
    leaves_old g.D.Device.seen g.D.Device.may_leave g.D.Device.moment g.D.Device.left_since c.args.journal.now servers batches rest
    c.loop-text.journal (c.loop-text.invariant.1.untouched servers batches rest) c.args.tree.now.tree

pub returns-in_err-put_renewed-clause-any_moment : goal.returns-in_err-put_renewed-clause-any_moment
returns-in_err-put_renewed-clause-any_moment g c servers batches rest =
    leaves_old g.D.Device.seen g.D.Device.may_leave g.D.Device.moment g.D.Device.left_since c.args.journal.now servers batches rest
    c.put_renewed.new.self
    (untouched_more g.D.Device.seen g.D.Device.may_leave g.D.Device.beside g.D.Device.moment g.D.Device.left_since 1
    c.args.journal.now c.loop-text.journal c.loop-text.invariant.0 c.loop-text.invariant.1 servers batches rest c.put_renewed.new.self
    c.put_renewed.ensures.untouched) c.args.tree.now.tree

pub loop-text-preserved : goal.loop-text-preserved
loop-text-preserved g c = (
  c.loop-text.invariant.0 ++ c.deref.result.now ∷ [],
  goes_on g.D.Device.seen g.D.Device.may_leave g.D.Device.beside g.D.Device.moment g.D.Device.left_since 1
      c.args.journal.now c.loop-text.journal c.loop-text.invariant.0 c.loop-text.invariant.1 c.put_renewed.new.self c.deref.result.now
      c.in_ok-put_renewed.ensures.open.1 c.in_ok-put_renewed.ensures.renewing c.put_renewed.ensures.start
      c.in_ok-put_renewed.ensures.added c.put_renewed.ensures.untouched,
  one_chunk c.args.tree.now.tree c.loop-text.text c.next_chunk.new.self c.loop-text.invariant.0 c.in-Some.chunk.items c.deref.result.now
      c.loop-text.invariant.2 (rw c.in-Some.is at c.in_ok-chunk.ensures.chunk) c.deref.ensures.value,
  omega (arith, c.loop-text.invariant.3, c.put_renewed.ensures.faults),
)

pub returns-in_err-put_renewed-clause-full : goal.returns-in_err-put_renewed-clause-full
returns-in_err-put_renewed-clause-full g c servers batches rest is =
    let p = err_from_is_err_and c.from_residual-in_err-put_renewed.result c.from_residual-in_err-put_renewed.ensures.1 in
    let reported : Err p.0 ≡ Err ending.Full = subst (λ r. IsErrOf r ending.Full) p.1 is in
    let full : p.0 ≡ ending.Full = cc reported in
    too_long g.D.Device.seen g.D.Device.may_leave g.D.Device.beside g.D.Device.moment g.D.Device.left_since
    c.args.tree.now.tree c.args.journal.now c.loop-text.journal c.loop-text.text c.loop-text.invariant.0 c.loop-text.invariant.1
    c.loop-text.invariant.2 servers batches rest
    (c.in_err-put_renewed.ensures.full (ap Err (full_is c.in_err-put_renewed.field-0.0 (sym p.2 ∙ full))))

pub loop-text-smaller : goal.loop-text-smaller
loop-text-smaller g c =
    chunk_shorter c.args.tree.now.tree c.loop-text.text c.next_chunk.new.self c.in-Some.chunk.items c.loop-text.invariant.2.same
    (rw c.in-Some.is at c.in_ok-chunk.ensures.chunk)

pub returns-in_err-end_renewal-clause-any_moment : goal.returns-in_err-end_renewal-clause-any_moment
returns-in_err-end_renewal-clause-any_moment g c servers batches rest =
    replaces g.D.Device.seen g.D.Device.may_leave g.D.Device.beside g.D.Device.moment g.D.Device.left_since 1
    c.args.journal.now c.loop-text.journal c.loop-text.invariant.0 c.loop-text.invariant.1 servers batches rest c.args.tree.now.tree
    (text_keeps c.args.tree.now.tree c.loop-text.text c.loop-text.invariant.0 c.loop-text.invariant.2
    (rw c.in_default.is at c.in_ok-chunk.ensures.end)) c.end_renewal.new.self c.end_renewal.ensures.any_moment

pub returns-clause-any_moment : goal.returns-clause-any_moment
returns-clause-any_moment g c servers batches rest =
    replaces g.D.Device.seen g.D.Device.may_leave g.D.Device.beside g.D.Device.moment g.D.Device.left_since 1
    c.args.journal.now c.loop-text.journal c.loop-text.invariant.0 c.loop-text.invariant.1 servers batches rest c.args.tree.now.tree
    (text_keeps c.args.tree.now.tree c.loop-text.text c.loop-text.invariant.0 c.loop-text.invariant.2
    (rw c.in_default.is at c.in_ok-chunk.ensures.end)) c.end_renewal.new.self c.end_renewal.ensures.any_moment

pub returns-clause-kept : goal.returns-clause-kept
returns-clause-kept g c servers batches was_open rest =
    let done = c.loop-text.invariant.0 in
    let all = rw c.in_default.is at c.in_ok-chunk.ensures.end in (
      done,
      c.in_ok-end_renewal.ensures.renewed servers batches done c.loop-text.invariant.1.is_open
          (c.loop-text.invariant.1.so_far servers batches rest),
      text_is c.args.tree.now.tree c.loop-text.text done c.loop-text.invariant.2 all,
      text_keeps c.args.tree.now.tree c.loop-text.text done c.loop-text.invariant.2 all,
    )
