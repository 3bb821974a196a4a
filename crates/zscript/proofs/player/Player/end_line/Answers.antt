use Rattle.std.proofs.Common.{◌≡◌, [], ◌++◌, length, sym, ap, subst, arith}
use Rattle.std.proofs.lemmas.List.{append-nil}
use Rattle.std.proofs.lemmas.Bool.Decides.{nat_tests}
use Rattle.std.proofs.lemmas.Result.{err_from_is_err_and}
use Rattle.zdevices.specs.Device.{Between, TookBeginning}
use Rattle.zscript.specs.Done.{IsLineDone, world_between}
use Rattle.zscript.specs.support.PlayerView.{PlayerView, world_now, Reports}
use Rattle.zscript.proofs.Done.{line_done-written}
use Rattle.zscript.proofs.Cached.{line_done-player, line_done-whole}
use Rattle.zscript.proofs.player.Player.end_line.Given.{Over}
use Rattle.zscript.proofs.player.Player.end_line.Goals as goal
use Rattle.zscript.proofs.player.Player.end_line.Goals.{After-len, then-is_empty+in_ok-answer_line, else-is_empty+in_ok-keep+in_ok-answer_line-2}

-- the line is done, and its answer is held after what was held
answered : (g : Over) (c : After-len g)
    → IsLineDone (world_now c.args.self.now) (c.args.self.now.line ++ c.args.end.now) (world_now c.if-is_empty.self)
    (λ text. c.if-is_empty.self.held ≡ c.args.self.now.held ++ text)
answered g c =
    let self = c.args.self.now in
    elim c.if-is_empty.branch [
      | then-is_empty+in_ok-answer_line w ↦
          let new = world_between w.answer_line.new.world.held in
          let reported = w.answer_line.new.out.bytes.items in
          let line : c.self.inside.line.items ≡ self.line = ap (λ (p : PlayerView). p.line) c.self.view_is in
          let none : length c.self.inside.line.items ≡ 0 = grind (arith, nat_tests) in
          let empty : length self.line ≡ 0 = omega (arith, none, ap length line) in
          rw w.self-is (line_done-whole (λ text. reported ≡ self.held ++ text) (world_now self) new self.line c.args.end.now empty
          (subst (λ (p : PlayerView). IsLineDone (world_now p) c.args.end.now new (λ text. reported ≡ p.held ++ text))
          c.self.view_is w.in_ok-answer_line.ensures.done))
      | else-is_empty+in_ok-keep+in_ok-answer_line-2 w ↦
          let new = world_between w.answer_line-else-is_empty.new.world.held in
          let reported = w.answer_line-else-is_empty.new.out.bytes.items in
          rw w.self-is (line_done-player self w.keep.new.self new c.args.end.now reported w.in_ok-keep.ensures.line
          w.in_ok-keep.ensures.world w.in_ok-keep.ensures.held
          (subst (λ (p : PlayerView). IsLineDone (world_now p) p.line new (λ text. reported ≡ p.held ++ text)) w.self-else-is_empty.view_is
          (rw w.deref.ensures.value at w.in_ok-answer_line-2.ensures.done)))
    ]

pub returns-then-len-lt-BLOCK-clause-done : goal.returns-then-len-lt-BLOCK-clause-done
returns-then-len-lt-BLOCK-clause-done g c =
    let self = c.args.self.now in
    let held = c.if-is_empty.self.held in
    line_done-written (λ text. held ≡ self.held ++ text) (λ text. Reports (Between g.K.Sink.took c.args.sink.now c.args.sink.now)
    (self.held ++ text) held)
    (world_now self) (world_now c.if-is_empty.self) (self.line ++ c.args.end.now)
    (λ text e. record { front = []; taken = g.met.K.Sink.took_nothing _; split = sym e })
    (answered g (goal.at.returns-then-len-lt-BLOCK-clause-done g c).After-len)

pub returns-in_err-write_replies-clause-stopped : goal.returns-in_err-write_replies-clause-stopped
returns-in_err-write_replies-clause-stopped g c =
    let p = err_from_is_err_and c.from_residual-in_err-write_replies.result c.from_residual-in_err-write_replies.ensures.1 in
    let self = c.args.self.now in
    let took = Between g.K.Sink.took c.args.sink.now c.write_replies.new.sink in
    rw (p.1, p.2, c.in_err-write_replies.ensures.fault) (
      world_now c.if-is_empty.self,
      line_done-written (λ text. c.if-is_empty.self.held ≡ self.held ++ text) (λ text. TookBeginning took (self.held ++ text))
          (world_now self) (world_now c.if-is_empty.self) (self.line ++ c.args.end.now)
          (λ text e. subst (TookBeginning took) e c.in_err-write_replies.ensures.beginning)
          (answered g (goal.at.returns-in_err-write_replies-clause-stopped g c).After-len),
      c.in_err-write_replies.ensures.failed,
    )

pub returns-clause-done : goal.returns-clause-done
returns-clause-done g c =
    let self = c.args.self.now in
    let took = Between g.K.Sink.took c.args.sink.now c.write_replies.new.sink in
    rw c.in_ok-write_replies.ensures.written (line_done-written (λ text. c.if-is_empty.self.held ≡ self.held ++ text)
    (λ text. Reports took (self.held ++ text) [])
    (world_now self) (world_now c.if-is_empty.self) (self.line ++ c.args.end.now)
    (λ text e. record { front = self.held ++ text; taken = subst took e c.in_ok-write_replies.ensures.took; split = sym (append-nil _) })
    (answered g (goal.at.returns-clause-done g c).After-len))
