use Rattle.std.proofs.Common.{inl, inr, rules}
use Rattle.std.proofs.lemmas.Result.{IfErr-weaker, IfOk-weaker}
use Rattle.zrun.specs.Clients.{BeganNothing}
use Rattle.zrun.specs.Asked.{CalledPatientlyInVain, so_often, AskedWithinInVain, AskedWithinUntil, InsistedWithinInVain, InsistedWithinUntil}
use Rattle.zrun.proofs.client.Client.ask_within.Goals as goal

pub returns-in-Ok-clause-reply : goal.returns-in-Ok-clause-reply
returns-in-Ok-clause-reply g c =
    (0, (c.begin.new.self.caller, c.in_ok-begin.field-0, c.in_ok-begin.ensures.began, inl c.in-Ok.ensures.reply))

pub returns-clause-reply : goal.returns-clause-reply
returns-clause-reply g c =
    let waited = c.wait.new.self.caller in
    IfOk-weaker c.insist_within.result (InsistedWithinUntil waited c.insist_within.new.self.caller)
    (AskedWithinUntil c.args.call c.args.self.now c.insist_within.new.self)
    (λ reply insisted. (
      insisted.0,
      (
        c.begin.new.self.caller,
        c.in_ok-begin.field-0,
        c.in_ok-begin.ensures.began,
        inr (waited, c.in_default.ensures.unanswered.1, insisted.1),
      ),
    ))
    c.insist_within.ensures.reply

pub returns-clause-unanswered : goal.returns-clause-unanswered
returns-clause-unanswered g c =
    IfErr-weaker c.insist_within.result (InsistedWithinInVain c.wait.new.self c.insist_within.new.self)
    (AskedWithinInVain c.args.call c.args.self.now c.insist_within.new.self)
    (λ fault insisted is. (
      insisted.1.0,
      (
        c.begin.new.self.caller,
        c.in_ok-begin.field-0,
        c.in_ok-begin.ensures.began,
        (c.wait.new.self.caller, c.in_default.ensures.unanswered.1, insisted.1.1),
      ),
    ))
    c.insist_within.ensures.unanswered

pub returns-clause-refused : goal.returns-clause-refused
returns-clause-refused g c =
    IfErr-weaker c.insist_within.result (InsistedWithinInVain c.wait.new.self c.insist_within.new.self)
    (BeganNothing c.args.self.now c.insist_within.new.self)
    (λ fault insisted other. absurd (other insisted.0))
    c.insist_within.ensures.unanswered

pub returns-in_err-begin-clause-unanswered : goal.returns-in_err-begin-clause-unanswered
returns-in_err-begin-clause-unanswered g c =
    IfErr-weaker c.from_residual.result (CalledPatientlyInVain (so_often 0) c.args.call c.args.self.now c.begin.new.self)
    (AskedWithinInVain c.args.call c.args.self.now c.begin.new.self)
    (λ fault was is. (0, was is))
    (search rules)
