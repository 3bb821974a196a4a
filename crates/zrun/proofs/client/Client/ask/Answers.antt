use Rattle.std.proofs.Common.{◌≡◌, inl, inr}
use Rattle.std.proofs.lemmas.Result.{IfErr-weaker, IfOk-weaker}
use Rattle.zcalls.specs.declared.reply.Reply.{Reply}
use Rattle.zrun.specs.declared.faults.Unanswered.{Unanswered}
use Rattle.zrun.specs.declared.faults.Unanswered.TheVariants.{NoAnswer}
use Rattle.zrun.specs.Clients.{BeganThen}
use Rattle.zrun.specs.Asked.{AskedInVain, AskedUntil, InsistedInVain, InsistedUntil}
use Rattle.zrun.proofs.client.Client.ask.Goals as goal

pub returns-in-Ok-clause-reply : goal.returns-in-Ok-clause-reply
returns-in-Ok-clause-reply c =
    (c.begin.new.self.caller, c.in_ok-begin.field-0, c.in_ok-begin.ensures.began, inl c.in-Ok.ensures.reply)

pub returns-clause-reply : goal.returns-clause-reply
returns-clause-reply c =
    let old = c.args.self.now.caller in
    let begun = c.begin.new.self.caller in
    let end = c.insist.new.self.caller in
    let patience = c.args.patience in
    IfOk-weaker c.insist.result (InsistedUntil patience c.wait.new.self.caller end)
    (λ (reply : Reply). BeganThen old c.args.call (λ m. AskedUntil patience m end reply))
    (λ reply insisted. (
      begun,
      c.in_ok-begin.field-0,
      c.in_ok-begin.ensures.began,
      inr (c.wait.new.self.caller, c.in_default.ensures.unanswered.1, insisted),
    ))
    c.insist.ensures.reply

pub returns-clause-unanswered : goal.returns-clause-unanswered
returns-clause-unanswered c =
    let old = c.args.self.now.caller in
    let begun = c.begin.new.self.caller in
    let end = c.insist.new.self.caller in
    let patience = c.args.patience in
    IfErr-weaker c.insist.result
    (λ (fault : Unanswered). (fault ≡ NoAnswer) × InsistedInVain patience.turns patience.retries c.wait.new.self.caller end)
    (λ (fault : Unanswered). fault ≡ NoAnswer → BeganThen old c.args.call (λ m. AskedInVain patience m end))
    (λ fault insisted is. (
      begun,
      c.in_ok-begin.field-0,
      c.in_ok-begin.ensures.began,
      (c.wait.new.self.caller, c.in_default.ensures.unanswered.1, insisted.1),
    ))
    c.insist.ensures.unanswered
