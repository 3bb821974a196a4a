use Rattle.std.proofs.Common.{refl, subst}
use Rattle.zcalls.specs.declared.call.Call.{Call}
use Rattle.zcalls.specs.declared.reply.Reply.{Reply}
use Rattle.zthreads.specs.Endpoints.{seen_of}
use Rattle.zrun.specs.Clients.{client_endpoint}
use Rattle.zrace.specs.Shown.{ShowsCall}
use Rattle.zrace.specs.declared.racer.TheConstants.{PATIENCE}
use Rattle.zrun.specs.Asked.{CalledPatientlyUntil}
use Rattle.zrace.proofs.Records.{call_shown}
use Rattle.zrace.proofs.racer.version_of.Goals as goal

pub returns-in-Exists-clause-reported : goal.returns-in-Exists-clause-reported
returns-in-Exists-clause-reported c = λ node is. (
  PATIENCE,
  c.exists.result,
  c.in-Exists.stat,
  (c.args.path, is, c.exists.ensures),
  subst (λ (reply : Reply). CalledPatientlyUntil PATIENCE c.exists.result c.args.client.now c.ask.new.client reply)
      c.in-Exists.is c.in-Some.ensures.reply,
  refl,
)

pub returns-in-Exists-clause-recorded : goal.returns-in-Exists-clause-recorded
returns-in-Exists-clause-recorded c = λ node is whole.
    let asked = subst (λ (reply : Reply). CalledPatientlyUntil PATIENCE c.exists.result c.args.client.now c.ask.new.client reply)
    c.in-Exists.is c.in-Some.ensures.reply in
    let shown = call_shown PATIENCE c.exists.result c.args.client.now c.ask.new.client _ asked whole in
    ∣ (
      shown.0,
      c.args.path,
      c.in-Exists.stat,
      is,
      subst (λ (call : Call). ShowsCall (seen_of (client_endpoint c.ask.new.client)) shown.0 call) c.exists.ensures shown.1,
      shown.2,
      refl,
    ) ∣₁
