use Rattle.std.proofs.Common.{sym, ◌∙◌}
use Rattle.std.proofs.lemmas.Result.{err_from_is_err_and}
use Rattle.zdevices.specs.Device.{Between}
use Rattle.znode.specs.Node.{has_ended}
use Rattle.znode.specs.Steps.{Takes}
use Rattle.znode.specs.pipe.Inputs.{input_of}
use Rattle.znode.proofs.pipe_lemmas.Inputs.{shorter}
use Rattle.znode.proofs.pipe_lemmas.Serving.{front_begins, front_more, front_fails, front_stops}
use Rattle.znode.proofs.pipe.serving.take_whole.Goals as goal

pub loop-alloc-init : goal.loop-alloc-init
loop-alloc-init g c =
    front_begins Takes has_ended (Between g.K.Sink.took c.args.sink.now c.args.sink.now)
    c.args.bytes.now c.args.node.now (g.met.K.Sink.took_nothing c.args.sink.now)

pub returns-in_err-take-in-Ok-clause-some : goal.returns-in_err-take-in-Ok-clause-some
returns-in_err-take-in-Ok-clause-some g c =
    let p = err_from_is_err_and c.from_residual.result c.from_residual.ensures.1 in
    rw p.1 (front_stops Takes has_ended
    (Between g.K.Sink.took c.args.sink.now c.loop-alloc.sink) (Between g.K.Sink.took c.loop-alloc.sink c.take.new.sink)
    (Between g.K.Sink.took c.args.sink.now c.take.new.sink)
    c.args.bytes.now c.loop-alloc.rest.now (input_of c.in-Ok.input) c.args.node.now c.loop-alloc.node (λ a b. g.met.K.Sink.took_both _ _ _ a b)
    c.loop-alloc.invariant c.in_err-take-in-Ok.ensures.some)

pub loop-alloc-smaller : goal.loop-alloc-smaller
loop-alloc-smaller g c = shorter (input_of c.in-Ok.input) c.loop-alloc.rest.now c.in-Ok.more.now c.in-Ok.ensures.found.1

pub loop-alloc-preserved : goal.loop-alloc-preserved
loop-alloc-preserved g c =
    front_more Takes has_ended (Between g.K.Sink.took c.args.sink.now c.loop-alloc.sink)
    (Between g.K.Sink.took c.loop-alloc.sink c.take.new.sink) (Between g.K.Sink.took c.args.sink.now c.take.new.sink)
    c.args.bytes.now c.loop-alloc.rest.now c.in-Ok.more.now (input_of c.in-Ok.input) c.args.node.now c.loop-alloc.node
    c.take.new.node (λ a b. g.met.K.Sink.took_both _ _ _ a b)
    c.loop-alloc.invariant (sym c.has_ended.ensures ∙ c.if-has_ended.false) c.in-Ok.ensures.found.0 c.in-Ok.ensures.found.1 c.in_ok-take-in-Ok.ensures.done

pub returns-in-Err : goal.returns-in-Err
returns-in-Err g c = record {
  front = tt;
  some = front_fails Takes has_ended
      (Between g.K.Sink.took c.args.sink.now c.loop-alloc.sink) c.args.bytes.now c.loop-alloc.rest.now c.args.node.now
      c.loop-alloc.node c.loop-alloc.invariant;
}
