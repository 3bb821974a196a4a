use Rattle.std.proofs.Common.{◌≡◌}
use Rattle.std.proofs.lemmas.Result.{IfErr-weaker, IfOk-weaker}
use Rattle.zcalls.specs.declared.reply.Reply.{Reply}
use Rattle.zrun.specs.declared.faults.Unanswered.{Unanswered}
use Rattle.zrun.specs.declared.faults.Unanswered.TheVariants.{NoAnswer}
use Rattle.zrun.specs.Clients.{BeganThen, TurnedInVain, TurnedUntil}
use Rattle.zrun.proofs.client.Client.call.Goals as goal

pub returns-clause-reply : goal.returns-clause-reply
returns-clause-reply c =
    let old = c.args.self.now.caller in
    let begun = c.begin.new.self.caller in
    let end = c.wait.new.self.caller in
    let turns = c.args.turns in
    IfOk-weaker c.wait.result (TurnedUntil turns begun end) (λ (reply : Reply). BeganThen old c.args.call (λ m. TurnedUntil turns m end reply))
    (λ reply took. (begun, c.in_ok-begin.field-0, c.in_ok-begin.ensures.began, took)) c.wait.ensures.reply

pub returns-clause-unanswered : goal.returns-clause-unanswered
returns-clause-unanswered c =
    let old = c.args.self.now.caller in
    let begun = c.begin.new.self.caller in
    let end = c.wait.new.self.caller in
    let turns = c.args.turns in
    IfErr-weaker c.wait.result (λ (fault : Unanswered). (fault ≡ NoAnswer) × TurnedInVain turns begun end)
    (λ (fault : Unanswered). fault ≡ NoAnswer → BeganThen old c.args.call (λ m. TurnedInVain turns m end))
    (λ fault took is. (begun, c.in_ok-begin.field-0, c.in_ok-begin.ensures.began, took.1)) c.wait.ensures.unanswered
