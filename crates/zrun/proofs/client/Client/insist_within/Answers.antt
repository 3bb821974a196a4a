use Rattle.std.proofs.Common.{◌≡◌, ◌+◌, suc, subst, ◌∙◌, arith}
use Rattle.zrun.specs.declared.asking.TheConstants.{TURNS}
use Rattle.zrun.specs.Asked.{InsistedInVain}
use Rattle.zrun.proofs.client.Client.insist_within.Goals as goal

pub loop-preserved : goal.loop-preserved
loop-preserved g c =
    let n = c.loop.counter in
    let up : suc n ≡ n + 1 = omega arith in
    let sent = c.send_again.ensures in
    let waited = c.wait.ensures.same in
    let same = c.loop.invariant.0 in (
      record { wiring = waited.wiring ∙ sent.same.wiring ∙ same.wiring; number = waited.number ∙ sent.same.number ∙ same.number },
      subst (λ k. InsistedInVain TURNS k c.args.self.now.caller c.wait.new.self.caller) up
          (c.loop.self.caller, c.send_again.new.self.caller, c.loop.invariant.1, sent.sent, c.in_default.ensures.unanswered.1),
      c.wait.ensures.learnt ∙ sent.learnt ∙ c.loop.invariant.2,
      c.wait.ensures.seat ∙ sent.seat ∙ c.loop.invariant.3,
    )

pub returns-in-Ok-clause-reply : goal.returns-in-Ok-clause-reply
returns-in-Ok-clause-reply g c = (
  c.loop.counter + 1,
  (
    c.loop.counter,
    omega arith,
    c.loop.self.caller,
    c.send_again.new.self.caller,
    c.loop.invariant.1,
    c.send_again.ensures.sent,
    c.in-Ok.ensures.reply,
  ),
)
