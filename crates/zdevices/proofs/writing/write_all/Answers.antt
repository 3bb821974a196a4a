use Rattle.std.proofs.Common.{◌≡◌, ◌-◌, length, take, drop, sym, arith}
use Rattle.std.proofs.lemmas.List.{append-nil, take-append-drop, take_all, length-drop}
use Rattle.std.proofs.lemmas.Result.{err_from_is_err_and}
use Rattle.std.proofs.Math.Seq.{take-add}
use Rattle.zdevices.proofs.writing.write_all.Goals as goal

pub returns-in_err-count-clause-beginning : goal.returns-in_err-count-clause-beginning
returns-in_err-count-clause-beginning g c = (
  take c.loop-done.done c.args.bytes.now,
  (drop c.loop-done.done c.args.bytes.now, sym (take-append-drop c.loop-done.done c.args.bytes.now)),
  rw append-nil at (g.met.K.Sink.took_both _ _ _ _ _ c.loop-done.invariant.written c.in_err-count.ensures.nothing),
)

pub returns-in_err-count-clause-failed : goal.returns-in_err-count-clause-failed
returns-in_err-count-clause-failed g c =
    let p = err_from_is_err_and c.from_residual.result c.from_residual.ensures.1 in
    rw p.1 (1, omega arith, g.met.K.Sink.failed_both _ _ _ 0 1 c.loop-done.invariant.sound c.in_err-count.ensures.failed)

pub returns-clause-beginning : goal.returns-clause-beginning
returns-clause-beginning g c = (
  take c.loop-done.done c.args.bytes.now,
  (drop c.loop-done.done c.args.bytes.now, sym (take-append-drop c.loop-done.done c.args.bytes.now)),
  c.loop-done.invariant.written,
)

pub loop-done-preserved : goal.loop-done-preserved
loop-done-preserved g c =
    let bytes = c.args.bytes.now in
    let done = c.loop-done.done in
    let all : take (length bytes - done) (drop done bytes) ≡ drop done bytes = take_all _ _ (omega (arith, length-drop done bytes)) in
    let count = rw all at c.in_ok-count.ensures.count in
    record {
      within = omega (arith, count, length-drop done bytes);
      written = rw take-add (g.met.K.Sink.took_both _ _ _ _ _ c.loop-done.invariant.written (rw all at c.in_ok-count.ensures.took));
      sound = g.met.K.Sink.failed_both _ _ _ 0 0 c.loop-done.invariant.sound c.in_ok-count.ensures.sound;
    }
