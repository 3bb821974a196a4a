use Rattle.std.proofs.Common.{◌≡◌, ◌<◌, length, ap, arith}
use Rattle.std.proofs.lemmas.List.{append-nil}
use Rattle.std.proofs.lemmas.Bool.Decides.{nat_tests}
use Rattle.std.proofs.lemmas.Result.{err_from_is_err_and}
use Rattle.zdevices.specs.Device.{Between}
use Rattle.zscript.specs.support.PlayerView.{PlayerView, world_now}
use Rattle.zdevices.proofs.Beginnings.{failed_after}
use Rattle.zscript.proofs.Stops.{line-stopped, line-cut, last_line-some, line-reported, none-reported}
use Rattle.zscript.proofs.player.Player.finish.Goals as goal

pub returns-then-is_empty-clause-done : goal.returns-then-is_empty-clause-done
returns-then-is_empty-clause-done g c =
    let line : c.self.inside.line.items ≡ c.args.self.now.line = ap (λ (p : PlayerView). p.line) c.self.view_is in
    let none : length c.self.inside.line.items ≡ 0 = grind (arith, nat_tests) in
    none-reported _ (world_now c.args.self.now) c.args.self.now.line (omega (arith, none, ap length line)) (g.met.K.Sink.took_nothing _)

pub returns-in_err-end_line-clause-stopped : goal.returns-in_err-end_line-clause-stopped
returns-in_err-end_line-clause-stopped g c =
    let p = err_from_is_err_and c.from_residual.result c.from_residual.ensures.1 in
    let line : c.self.inside.line.items ≡ c.args.self.now.line = ap (λ (p : PlayerView). p.line) c.self.view_is in
    let some : 0 < length c.self.inside.line.items = grind (arith, nat_tests) in
    let last = last_line-some c.args.self.now.line (omega (arith, ap length line)) in
    rw (p.1, p.2, last) (line-stopped _ _ c.args.self.now c.args.self.now.line c.requires c.in_err-end_line.field-0.0
    (rw append-nil at c.in_err-end_line.ensures.stopped))

pub returns-in_err-write_replies-clause-stopped : goal.returns-in_err-write_replies-clause-stopped
returns-in_err-write_replies-clause-stopped g c =
    let p = err_from_is_err_and c.from_residual-in_err-write_replies.result c.from_residual-in_err-write_replies.ensures.1 in
    let line : c.self.inside.line.items ≡ c.args.self.now.line = ap (λ (p : PlayerView). p.line) c.self.view_is in
    let some : 0 < length c.self.inside.line.items = grind (arith, nat_tests) in
    let last = last_line-some c.args.self.now.line (omega (arith, ap length line)) in
    let done = rw append-nil at c.in_ok-end_line.ensures.done in
    rw (p.1, p.2, c.in_err-write_replies.ensures.fault) (
      rw last (line-cut
          (Between g.K.Sink.took c.args.sink.now c.end_line.new.sink)
          (Between g.K.Sink.took c.end_line.new.sink c.write_replies.new.sink)
          (Between g.K.Sink.took c.args.sink.now c.write_replies.new.sink)
          (λ a b. g.met.K.Sink.took_both _ _ _ a b)
          (world_now c.args.self.now) (world_now c.end_line.new.self) c.args.self.now.held c.args.self.now.line c.end_line.new.self.held
          c.requires done c.in_err-write_replies.ensures.beginning),
      failed_after _ (Between g.K.Sink.failed c.args.sink.now c.write_replies.new.sink)
          (λ n. g.met.K.Sink.failed_both _ _ _ 0 n c.in_ok-end_line.ensures.sound) c.in_err-write_replies.ensures.failed,
    )

pub returns-clause-done : goal.returns-clause-done
returns-clause-done g c =
    let line : c.self.inside.line.items ≡ c.args.self.now.line = ap (λ (p : PlayerView). p.line) c.self.view_is in
    let some : 0 < length c.self.inside.line.items = grind (arith, nat_tests) in
    let last = last_line-some c.args.self.now.line (omega (arith, ap length line)) in
    let world = ap world_now c.in_ok-write_replies.ensures.written in
    let done = rw append-nil at c.in_ok-end_line.ensures.done in
    rw (last, world) (line-reported
    (Between g.K.Sink.took c.args.sink.now c.end_line.new.sink)
    (Between g.K.Sink.took c.end_line.new.sink c.write_replies.new.sink)
    (Between g.K.Sink.took c.args.sink.now c.write_replies.new.sink)
    (λ a b. g.met.K.Sink.took_both _ _ _ a b)
    (world_now c.args.self.now) (world_now c.end_line.new.self) c.args.self.now.held c.args.self.now.line c.end_line.new.self.held
    c.requires done c.in_ok-write_replies.ensures.took)

pub returns-clause-sound : goal.returns-clause-sound
returns-clause-sound g c = g.met.K.Sink.failed_both _ _ _ 0 0 c.in_ok-end_line.ensures.sound c.in_ok-write_replies.ensures.sound
