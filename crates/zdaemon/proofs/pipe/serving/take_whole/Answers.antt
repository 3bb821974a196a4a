use Rattle.std.proofs.Common.{rules}
use Rattle.std.proofs.lemmas.Result.{err_from_is_err_and}
use Rattle.zdevices.specs.Device.{Between}
use Rattle.zdaemon.specs.pipe.Messages.{message_of}
use Rattle.zdaemon.proofs.pipe_lemmas.Messages.{shorter}
use Rattle.zdaemon.proofs.pipe_lemmas.Going.{front_begins, front_more, front_fails, front_stops}
use Rattle.zdaemon.proofs.pipe.serving.take_whole.Goals as goal

pub loop-message-init : goal.loop-message-init
loop-message-init g c = (
  front_begins g.V.Service.took g.V.Service.kept g.V.Service.reported g.V.Service.has_reported (Between g.K.Sink.took c.args.sink.now c.args.sink.now)
      c.args.bytes.now c.args.service.now (g.met.K.Sink.took_nothing c.args.sink.now),
  c.requires,
)

pub take-requires : goal.take-requires
take-requires g c = c.loop-message.invariant.1

pub returns-in_err-take-in-Ok-clause-some : goal.returns-in_err-take-in-Ok-clause-some
returns-in_err-take-in-Ok-clause-some g c =
    let p = err_from_is_err_and c.from_residual.result c.from_residual.ensures.1 in
    rw p.1 (front_stops g.V.Service.took g.V.Service.kept g.V.Service.reported g.V.Service.has_reported
    (Between g.K.Sink.took c.args.sink.now c.loop-message.sink) (Between g.K.Sink.took c.loop-message.sink c.take.new.sink)
    (Between g.K.Sink.took c.args.sink.now c.take.new.sink)
    c.args.bytes.now c.loop-message.rest.now c.args.service.now c.loop-message.service (λ a b. g.met.K.Sink.took_both _ _ _ a b)
    c.loop-message.invariant.0 c.in_err-take-in-Ok.ensures.some)

pub loop-message-smaller : goal.loop-message-smaller
loop-message-smaller g c = shorter (message_of c.in-Ok.message) c.loop-message.rest.now c.in-Ok.more.now c.in-Ok.ensures.found.1

pub loop-message-preserved : goal.loop-message-preserved
loop-message-preserved g c = (
  front_more g.V.Service.took g.V.Service.kept g.V.Service.reported g.V.Service.has_reported (Between g.K.Sink.took c.args.sink.now c.loop-message.sink)
      (Between g.K.Sink.took c.loop-message.sink c.take.new.sink) (Between g.K.Sink.took c.args.sink.now c.take.new.sink)
      c.args.bytes.now c.loop-message.rest.now c.in-Ok.more.now (message_of c.in-Ok.message) c.args.service.now c.loop-message.service
      c.take.new.service (λ a b. g.met.K.Sink.took_both _ _ _ a b)
      c.loop-message.invariant.0 c.in-Ok.ensures.found.0 c.in-Ok.ensures.found.1 c.in_ok-take-in-Ok.ensures.done,
  c.in_ok-take-in-Ok.ensures.sound,
)

pub returns-in-Err-Short-clause-front : goal.returns-in-Err-Short-clause-front
returns-in-Err-Short-clause-front g c = search rules

pub returns-in-Err-Short-clause-sound : goal.returns-in-Err-Short-clause-sound
returns-in-Err-Short-clause-sound g c = c.loop-message.invariant.1

pub returns-in-Err : goal.returns-in-Err
returns-in-Err g c = record {
  front = tt;
  sound = tt;
  some = front_fails g.V.Service.took g.V.Service.kept g.V.Service.reported g.V.Service.has_reported
      (Between g.K.Sink.took c.args.sink.now c.loop-message.sink) c.args.bytes.now c.loop-message.rest.now c.args.service.now
      c.loop-message.service c.loop-message.invariant.0;
}
