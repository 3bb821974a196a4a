use Rattle.std.proofs.Common.{Option, sym, subst}
use Rattle.std.specs.Prelude.{Result, Ok, Err, IfOk, IfSome}
use Rattle.std.specs.Result.{result_ok}
use Rattle.zcalls.specs.declared.reply.Reply.{Reply}
use Rattle.zrun.specs.Asked.{CalledPatientlyUntil}
use Rattle.zrace.specs.declared.racer.TheConstants.{PATIENCE}
use Rattle.zrace.proofs.Records.{call_goes}
use Rattle.zrace.proofs.racer.ask.Goals as goal

-- what holds of a value holds of the one that is left
value_left : {X E : Type 0} (r : Result X E) (P : X → Type 0) → IfOk r P → IfSome (result_ok r) P
value_left (Ok x) P holds = holds
value_left (Err e) P holds = tt

pub returns-clause-reply : goal.returns-clause-reply
returns-clause-reply c =
    let P : Reply → Type 0 = CalledPatientlyUntil PATIENCE c.args.call c.args.client.now c.ask.new.self in
    subst (λ (o : Option Reply). IfSome o P) (sym c.ok.ensures.value) (value_left c.ask.result P c.ask.ensures.reply)

pub returns-clause-goes : goal.returns-clause-goes
returns-clause-goes c =
    call_goes PATIENCE c.args.call c.args.client.now c.ask.new.self c.ask.result c.ask.ensures.reply c.ask.ensures.unanswered c.ask.ensures.refused
