use Rattle.std.proofs.Common.{◌≡◌, ◌+◌, ◌∙◌, arith}
use Rattle.zrun.specs.declared.asking.TheConstants.{TURNS}
use Rattle.zrun.specs.Ticks.{call_count}
use Rattle.zrun.proofs.Calls.{began_once, in_vain, sent, until}
use Rattle.zrun.proofs.ticker.tick.Goals as goal

pub loop-init : goal.loop-init
loop-init g c =
    (c.begin.ensures.same, began_once c.args.client.now.caller c.begin.new.self.caller _ c.in_ok-begin.field-0 c.in_ok-begin.ensures.began)

pub returns-in-Ok-clause-answered : goal.returns-in-Ok-clause-answered
returns-in-Ok-clause-answered g c =
    until TURNS c.loop.client.caller c.wait.new.self.caller c.in-Ok.reply c.in-Ok.ensures.reply ∙ c.loop.invariant.1

pub returns-then-load-eq-STOPPED-clause-unanswered : goal.returns-then-load-eq-STOPPED-clause-unanswered
returns-then-load-eq-STOPPED-clause-unanswered g c =
    let e : call_count c.wait.new.self ≡ call_count c.args.client.now + 1 =
    in_vain TURNS c.loop.client.caller c.wait.new.self.caller c.in_default.ensures.unanswered.1 ∙ c.loop.invariant.1 in
    omega (arith, e)

pub loop-preserved : goal.loop-preserved
loop-preserved g c =
    let i = c.loop.invariant in
    let waited = c.wait.ensures.same in
    let again = c.send_again.ensures in (
      record { wiring = again.same.wiring ∙ waited.wiring ∙ i.0.wiring; number = again.same.number ∙ waited.number ∙ i.0.number },
      sent c.wait.new.self.caller c.send_again.new.self.caller again.sent
          ∙ in_vain TURNS c.loop.client.caller c.wait.new.self.caller c.in_default.ensures.unanswered.1
          ∙ i.1,
    )
