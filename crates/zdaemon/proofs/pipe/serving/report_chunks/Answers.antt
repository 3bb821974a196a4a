use Rattle.std.proofs.lemmas.Result.{err_from_is_err_and}
use Rattle.zdevices.specs.Device.{Between}
use Rattle.zdaemon.specs.pipe.Serving.{IsReporting}
use Rattle.zdaemon.proofs.pipe_lemmas.Sequences.{reporting_begins, reporting_more, reporting_written, reporting_stops}
use Rattle.zdaemon.proofs.pipe.serving.report_chunks.Goals.{then-len-ge-BLOCK+in_ok-tell, else-len-ge-BLOCK}
use Rattle.zdaemon.proofs.pipe.serving.report_chunks.Goals as goal

pub loop-chunk-init : goal.loop-chunk-init
loop-chunk-init g c = (
  reporting_begins g.V.Service.reported (Between g.K.Sink.took c.args.sink.now c.args.sink.now)
      c.args.service.now c.args.out.now.items c.requires.empty (g.met.K.Sink.took_nothing c.args.sink.now),
  c.requires.sound,
)

pub returns-in_err-tell-clause-some : goal.returns-in_err-tell-clause-some
returns-in_err-tell-clause-some g c =
    let p = err_from_is_err_and c.from_residual-in_err-tell.result c.from_residual-in_err-tell.ensures.1 in
    let more = reporting_more g.V.Service.reported (Between g.K.Sink.took c.args.sink.now c.loop-chunk.sink) c.args.service.now
    c.loop-chunk.service c.next_chunk.new.self c.loop-chunk.out.items c.put_chunk.new.out.items c.in-Some.chunk
    c.loop-chunk.invariant.0 c.in-Some.ensures.reported c.in_ok-put_chunk.ensures.text in
    rw p.1 (reporting_stops g.V.Service.reported (Between g.K.Sink.took c.args.sink.now c.loop-chunk.sink)
    (Between g.K.Sink.took c.loop-chunk.sink c.tell.new.sink) (Between g.K.Sink.took c.args.sink.now c.tell.new.sink)
    c.args.service.now c.next_chunk.new.self c.put_chunk.new.out.items
    (λ a b. g.met.K.Sink.took_both _ _ _ a b) more c.in_err-tell.ensures.some)

pub loop-chunk-preserved : goal.loop-chunk-preserved
loop-chunk-preserved g c =
    let more = reporting_more g.V.Service.reported (Between g.K.Sink.took c.args.sink.now c.loop-chunk.sink) c.args.service.now
    c.loop-chunk.service c.next_chunk.new.self c.loop-chunk.out.items c.put_chunk.new.out.items c.in-Some.chunk
    c.loop-chunk.invariant.0 c.in-Some.ensures.reported c.in_ok-put_chunk.ensures.text in
    let is : IsReporting g.V.Service.reported (Between g.K.Sink.took c.args.sink.now c.if-len-ge-BLOCK.sink) c.args.service.now
    c.next_chunk.new.self c.if-len-ge-BLOCK.out.items =
    elim c.if-len-ge-BLOCK.branch [
      | then-len-ge-BLOCK+in_ok-tell w ↦ rw (w.out-is, w.sink-is)
          (reporting_written g.V.Service.reported (Between g.K.Sink.took c.args.sink.now c.loop-chunk.sink)
          (Between g.K.Sink.took c.loop-chunk.sink w.tell.new.sink) (Between g.K.Sink.took c.args.sink.now w.tell.new.sink)
          c.args.service.now c.next_chunk.new.self c.put_chunk.new.out.items w.tell.new.out.items
          (λ a b. g.met.K.Sink.took_both _ _ _ a b) more w.in_ok-tell.ensures.done w.in_ok-tell.ensures.none)
      | else-len-ge-BLOCK w ↦ rw (w.out-is, w.sink-is) more
    ] in
    (is, c.in-Some.ensures.sound)
