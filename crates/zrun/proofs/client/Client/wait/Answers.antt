use Rattle.std.proofs.Common.{◌≡◌, ◌+◌, suc, subst, ◌∙◌, arith}
use Rattle.zrun.specs.Clients.{TurnedInVain}
use Rattle.zrun.proofs.client.Client.wait.Goals as goal

pub loop-preserved : goal.loop-preserved
loop-preserved c =
    let n = c.loop.counter in
    let up : suc n ≡ n + 1 = omega arith in
    let was = c.loop.self.caller in
    let same = c.turn.ensures.same in (
      record { wiring = same.wiring ∙ c.loop.invariant.0.wiring; number = same.number ∙ c.loop.invariant.0.number },
      subst (λ k. TurnedInVain k c.args.self.now.caller c.turn.new.self.caller) up (was, c.loop.invariant.1, c.in-None.ensures.turned),
      c.turn.ensures.learnt ∙ c.loop.invariant.2,
      c.turn.ensures.seat ∙ c.loop.invariant.3,
    )
