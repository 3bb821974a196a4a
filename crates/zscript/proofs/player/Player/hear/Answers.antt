use Rattle.std.proofs.Common.{◌<◌, length, length-append, ap, ◌∙◌, arith}
use Rattle.std.proofs.lemmas.Result.{err_from_is_err_and}
use Rattle.zdevices.specs.Device.{Between}
use Rattle.zscript.specs.support.Lines.{whole_lines_after, line_left, last_line}
use Rattle.zscript.specs.support.PlayerView.{world_now}
use Rattle.zdevices.proofs.Beginnings.{failed_after}
use Rattle.zscript.proofs.Stops.{stopped-longer, left-stopped, replies-stopped, replies-written}
use Rattle.zscript.proofs.player.Player.hear.Goals as goal

pub returns-in_err-rest-clause-stopped : goal.returns-in_err-rest-clause-stopped
returns-in_err-rest-clause-stopped g c =
    let p = err_from_is_err_and c.from_residual.result c.from_residual.ensures.1 in
    let self = c.args.self.now in
    rw (p.1, p.2) (stopped-longer _ _ (world_now self) (whole_lines_after self.line c.args.bytes.now)
    (last_line (line_left self.line c.args.bytes.now)) c.in_err-rest.field-0.0 c.in_err-rest.ensures.stopped)

pub returns-in_err-keep-clause-stopped : goal.returns-in_err-keep-clause-stopped
returns-in_err-keep-clause-stopped g c =
    let p = err_from_is_err_and c.from_residual-in_err-keep.result c.from_residual-in_err-keep.ensures.1 in
    let self = c.args.self.now in
    let line = c.in_ok-rest.ensures.line in
    let some : 0 < length (line_left self.line c.args.bytes.now) = omega
    (arith, ap length line, length-append c.play_lines.new.self.line c.in_ok-rest.rest.now, c.in_err-keep.ensures.some) in
    let stopped = left-stopped _ (world_now self) (world_now c.play_lines.new.self) self.line c.args.bytes.now
    c.play_lines.new.self.held some c.in_ok-rest.ensures.done in
    rw (p.1, p.2) (stopped.0, stopped.1, c.in_ok-rest.ensures.sound)

pub returns-in_err-write_replies-clause-stopped : goal.returns-in_err-write_replies-clause-stopped
returns-in_err-write_replies-clause-stopped g c =
    let p = err_from_is_err_and c.from_residual-in_err-write_replies.result c.from_residual-in_err-write_replies.ensures.1 in
    let self = c.args.self.now in
    let held = c.in_ok-keep.ensures.held in
    rw (p.1, p.2, c.in_err-write_replies.ensures.fault) (
      replies-stopped
          (Between g.K.Sink.took c.args.sink.now c.play_lines.new.sink)
          (Between g.K.Sink.took c.play_lines.new.sink c.write_replies.new.sink)
          (Between g.K.Sink.took c.args.sink.now c.write_replies.new.sink)
          (λ a b. g.met.K.Sink.took_both _ _ _ a b)
          (world_now self) (world_now c.play_lines.new.self) self.line c.args.bytes.now c.play_lines.new.self.held
          c.in_ok-rest.ensures.done (rw held at c.in_err-write_replies.ensures.beginning),
      failed_after _ (Between g.K.Sink.failed c.args.sink.now c.write_replies.new.sink)
          (λ n. g.met.K.Sink.failed_both _ _ _ 0 n c.in_ok-rest.ensures.sound) c.in_err-write_replies.ensures.failed,
    )

pub returns-clause-done : goal.returns-clause-done
returns-clause-done g c =
    let self = c.args.self.now in
    let held = c.in_ok-keep.ensures.held in
    let world = ap world_now c.in_ok-write_replies.ensures.written ∙ c.in_ok-keep.ensures.world in
    rw world (replies-written
    (Between g.K.Sink.took c.args.sink.now c.play_lines.new.sink)
    (Between g.K.Sink.took c.play_lines.new.sink c.write_replies.new.sink)
    (Between g.K.Sink.took c.args.sink.now c.write_replies.new.sink)
    (λ a b. g.met.K.Sink.took_both _ _ _ a b)
    (world_now self) (world_now c.play_lines.new.self) (whole_lines_after self.line c.args.bytes.now) c.play_lines.new.self.held
    c.in_ok-rest.ensures.done (rw held at c.in_ok-write_replies.ensures.took))

pub returns-clause-sound : goal.returns-clause-sound
returns-clause-sound g c = g.met.K.Sink.failed_both _ _ _ 0 0 c.in_ok-rest.ensures.sound c.in_ok-write_replies.ensures.sound
