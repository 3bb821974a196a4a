use Rattle.std.proofs.Common.{◌+◌, ◌-◌, length, drop, arith}
use Rattle.std.proofs.lemmas.List.{length-take, length-drop}
use Rattle.std.proofs.lemmas.Result.{err_from_is_err_and}
use Rattle.zdevices.specs.Device.{Between}
use Rattle.zscript.proofs.FirstEnd.{IsPart-from_none, cut_at_first}
use Rattle.zscript.proofs.Progress.{progress-none, progress-line, progress-whole, progress-left}
use Rattle.zscript.proofs.Stops.{progress-stopped}
use Rattle.zscript.proofs.player.Player.play_lines.Goals as goal

pub loop-place-init : goal.loop-place-init
loop-place-init g c = record {
  progress = progress-none _ c.args.self.now c.args.bytes.now (g.met.K.Sink.took_nothing _) c.requires;
  short = omega arith;
  sound = g.met.K.Sink.failed_never _;
}

pub returns-in_err-end_line-clause-stopped : goal.returns-in_err-end_line-clause-stopped
returns-in_err-end_line-clause-stopped g c =
    let p = err_from_is_err_and c.from_residual.result c.from_residual.ensures.1 in
    let rest = c.loop-place.rest.now in
    let next = cut_at_first rest c.in-Some.place (λ j below. c.in-Some.ensures.0.before j (omega arith) below)
    c.in-Some.ensures.0.high c.in-Some.ensures.1 in
    rw (p.1, p.2) (progress-stopped
    (Between g.K.Sink.took c.args.sink.now c.loop-place.sink)
    (Between g.K.Sink.took c.loop-place.sink c.end_line.new.sink)
    (Between g.K.Sink.took c.args.sink.now c.end_line.new.sink)
    (Between g.K.Sink.failed c.loop-place.sink c.end_line.new.sink)
    (Between g.K.Sink.failed c.args.sink.now c.end_line.new.sink)
    c.args.self.now c.loop-place.self c.args.bytes.now rest _ _
    (λ a b. g.met.K.Sink.took_both _ _ _ a b)
    (λ n. g.met.K.Sink.failed_both _ _ _ 0 n c.loop-place.invariant.sound)
    c.loop-place.invariant.progress next.part next.whole
    c.in_err-end_line.field-0.0
    c.in_err-end_line.ensures.stopped)

pub loop-place-preserved : goal.loop-place-preserved
loop-place-preserved g c =
    let rest = c.loop-place.rest.now in
    let next = cut_at_first rest c.in-Some.place (λ j below. c.in-Some.ensures.0.before j (omega arith) below)
    c.in-Some.ensures.0.high c.in-Some.ensures.1 in
    record {
      progress = progress-line
          (Between g.K.Sink.took c.args.sink.now c.loop-place.sink)
          (Between g.K.Sink.took c.loop-place.sink c.end_line.new.sink)
          (Between g.K.Sink.took c.args.sink.now c.end_line.new.sink)
          c.args.self.now c.loop-place.self c.end_line.new.self c.args.bytes.now rest _ _
          (λ a b. g.met.K.Sink.took_both _ _ _ a b)
          c.loop-place.invariant.progress next.part next.whole
          c.in_ok-end_line.ensures.line c.in_ok-end_line.ensures.done;
      short = omega (
        arith,
        length-take (length rest - (c.in-Some.place + 1)) (drop (c.in-Some.place + 1) rest),
        length-drop (c.in-Some.place + 1) rest,
        c.loop-place.invariant.short,
      );
      sound = g.met.K.Sink.failed_both _ _ _ 0 0 c.loop-place.invariant.sound c.in_ok-end_line.ensures.sound;
    }

pub returns-clause-done : goal.returns-clause-done
returns-clause-done g c = progress-whole _ c.args.self.now c.loop-place.self c.args.bytes.now c.loop-place.rest.now
    c.loop-place.invariant.progress (IsPart-from_none c.loop-place.rest.now (λ j below. c.in_default.ensures j (omega arith) below))

pub returns-clause-line : goal.returns-clause-line
returns-clause-line g c = progress-left _ c.args.self.now c.loop-place.self c.args.bytes.now c.loop-place.rest.now
    c.loop-place.invariant.progress (IsPart-from_none c.loop-place.rest.now (λ j below. c.in_default.ensures j (omega arith) below))

pub overflow_add-rest : goal.overflow_add-rest
overflow_add-rest g c = omega (arith, c.in-Some.ensures.0.high, c.loop-place.invariant.short)
