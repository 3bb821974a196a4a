use Rattle.std.proofs.Common.{[], ◌++◌, take}
use Rattle.std.proofs.lemmas.List.{append-nil}
use Rattle.std.proofs.lemmas.Result.{err_from_is_err_and}
use Rattle.zdevices.specs.Device.{Between, source_run, sink_run}
use Rattle.zscript.specs.Script.{opening_of}
use Rattle.zscript.specs.support.PlayerView.{world_now}
use Rattle.zscript.proofs.Runs.{heard-nil, heard-append, heard-last}
use Rattle.zscript.proofs.Cutting.{cut_at_read, played_whole, cut_at_last, cut_in_block}
use Rattle.zscript.proofs.script.play_blocks.Goals as goal

pub loop-count-init : goal.loop-count-init
loop-count-init g c = record {
  so_far = (
    [],
    g.met.S.Source.gave_nothing _,
    heard-nil (Between g.K.Sink.took c.args.sink.now c.args.sink.now)
        c.args.player.now (g.met.K.Sink.took_nothing _) c.requires.fresh,
  );
  source_sound = g.met.S.Source.failed_never _;
  sink_sound = g.met.K.Sink.failed_never _;
}

pub returns-in_default : goal.returns-in_default
returns-in_default g c = λ servers opening.
    let so_far = c.loop-count.invariant.so_far in
    cut_at_read servers
    (source_run g.S.Source.gave g.S.Source.failed g.S.Source.has_ended c.args.source.now c.read.new.self)
    (sink_run g.K.Sink.took g.K.Sink.failed c.args.sink.now c.loop-count.sink)
    c.loop-count.player so_far.0
    (rw append-nil at (g.met.S.Source.gave_both _ _ _ _ _ so_far.1 c.in_default.ensures.nothing))
    (rw opening at so_far.2)
    (g.met.S.Source.failed_both _ _ _ 0 1 c.loop-count.invariant.source_sound c.in_default.ensures.failed)
    c.loop-count.invariant.sink_sound

pub returns-in_err-finish : goal.returns-in_err-finish
returns-in_err-finish g c =
    let p = err_from_is_err_and c.from_residual.result c.from_residual.ensures.1 in
    let so_far = c.loop-count.invariant.so_far in
    let none = c.if-count-eq0.true in
    rw (p.1, p.2) (λ servers opening. cut_at_last servers
    (source_run g.S.Source.gave g.S.Source.failed g.S.Source.has_ended c.args.source.now c.read.new.self)
    (Between g.K.Sink.took c.args.sink.now c.loop-count.sink)
    (sink_run g.K.Sink.took g.K.Sink.failed c.loop-count.sink c.finish.new.sink)
    (sink_run g.K.Sink.took g.K.Sink.failed c.args.sink.now c.finish.new.sink)
    c.loop-count.player so_far.0
    (record {
      both = λ a b. g.met.K.Sink.took_both _ _ _ a b;
      counts = λ count. g.met.K.Sink.failed_both _ _ _ 0 count c.loop-count.invariant.sink_sound;
      heard = rw opening at so_far.2;
    })
    (rw append-nil at (g.met.S.Source.gave_both _ _ _ _ _ so_far.1 (rw none at c.in-Ok.ensures.gave)))
    (c.in-Ok.ensures.end none)
    (g.met.S.Source.failed_both _ _ _ 0 0 c.loop-count.invariant.source_sound c.in-Ok.ensures.sound)
    c.in_err-finish.field-0.0
    c.in_err-finish.ensures.stopped)

pub returns-then-count-eq0 : goal.returns-then-count-eq0
returns-then-count-eq0 g c = λ servers opening.
    let so_far = c.loop-count.invariant.so_far in
    let none = c.if-count-eq0.true in
    played_whole servers
    (source_run g.S.Source.gave g.S.Source.failed g.S.Source.has_ended c.args.source.now c.read.new.self)
    (sink_run g.K.Sink.took g.K.Sink.failed c.args.sink.now c.finish.new.sink)
    (world_now c.finish.new.self) so_far.0
    (rw append-nil at (g.met.S.Source.gave_both _ _ _ _ _ so_far.1 (rw none at c.in-Ok.ensures.gave)))
    (heard-last (opening_of servers)
    (Between g.K.Sink.took c.args.sink.now c.loop-count.sink)
    (Between g.K.Sink.took c.loop-count.sink c.finish.new.sink)
    (Between g.K.Sink.took c.args.sink.now c.finish.new.sink)
    c.loop-count.player (world_now c.finish.new.self) so_far.0
    (λ a b. g.met.K.Sink.took_both _ _ _ a b)
    (rw opening at so_far.2) c.in_ok-finish.ensures.done)
    (c.in-Ok.ensures.end none)
    (g.met.S.Source.failed_both _ _ _ 0 0 c.loop-count.invariant.source_sound c.in-Ok.ensures.sound)
    (g.met.K.Sink.failed_both _ _ _ 0 0 c.loop-count.invariant.sink_sound c.in_ok-finish.ensures.sound)

pub loop-count-preserved : goal.loop-count-preserved
loop-count-preserved g c =
    let so_far = c.loop-count.invariant.so_far in
    let chunk = take c.in-Ok.count c.read.new.buffer in
    record {
      so_far = (
        so_far.0 ++ chunk,
        g.met.S.Source.gave_both c.args.source.now c.loop-count.source c.read.new.self so_far.0 chunk so_far.1 c.in-Ok.ensures.gave,
        heard-append (world_now c.args.player.now)
            (Between g.K.Sink.took c.args.sink.now c.loop-count.sink)
            (Between g.K.Sink.took c.loop-count.sink c.hear.new.sink)
            (Between g.K.Sink.took c.args.sink.now c.hear.new.sink)
            c.loop-count.player c.hear.new.self so_far.0 chunk
            (λ a b. g.met.K.Sink.took_both _ _ _ a b)
            so_far.2 c.in_ok-hear.ensures.done c.in_ok-hear.ensures.line c.in_ok-hear.ensures.held,
      );
      source_sound = g.met.S.Source.failed_both _ _ _ 0 0 c.loop-count.invariant.source_sound c.in-Ok.ensures.sound;
      sink_sound = g.met.K.Sink.failed_both _ _ _ 0 0 c.loop-count.invariant.sink_sound c.in_ok-hear.ensures.sound;
    }

pub returns-in_err-hear : goal.returns-in_err-hear
returns-in_err-hear g c =
    let p = err_from_is_err_and c.from_residual-in_err-hear.result c.from_residual-in_err-hear.ensures.1 in
    let so_far = c.loop-count.invariant.so_far in
    let chunk = take c.in-Ok.count c.read.new.buffer in
    rw (p.1, p.2) (λ servers opening. cut_in_block servers
    (source_run g.S.Source.gave g.S.Source.failed g.S.Source.has_ended c.args.source.now c.read.new.self)
    (Between g.K.Sink.took c.args.sink.now c.loop-count.sink)
    (sink_run g.K.Sink.took g.K.Sink.failed c.loop-count.sink c.hear.new.sink)
    (sink_run g.K.Sink.took g.K.Sink.failed c.args.sink.now c.hear.new.sink)
    c.loop-count.player so_far.0
    (record {
      both = λ a b. g.met.K.Sink.took_both _ _ _ a b;
      counts = λ count. g.met.K.Sink.failed_both _ _ _ 0 count c.loop-count.invariant.sink_sound;
      heard = rw opening at so_far.2;
    })
    chunk
    (g.met.S.Source.gave_both _ _ _ _ _ so_far.1 c.in-Ok.ensures.gave)
    (g.met.S.Source.failed_both _ _ _ 0 0 c.loop-count.invariant.source_sound c.in-Ok.ensures.sound)
    c.in_err-hear.field-0.0
    c.in_err-hear.ensures.stopped)
