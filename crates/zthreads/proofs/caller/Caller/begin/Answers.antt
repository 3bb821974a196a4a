use Rattle.std.proofs.Common.{subst}
use Rattle.zactor.specs.declared.done.Done.{Done}
use Rattle.zactor.specs.declared.input.Input.TheVariants.{Begin}
use Rattle.zthreads.specs.Hosts.{Gave, host_stamp}
use Rattle.zthreads.proofs.Books.{behind}
use Rattle.zthreads.proofs.Hosted.{gave_before}
use Rattle.zthreads.proofs.Roles.{client_begins_call}
use Rattle.zthreads.proofs.caller.Caller.begin.Goals as goal

pub returns-in-Ok-clause-began : goal.returns-in-Ok-clause-began
returns-in-Ok-clause-began c =
    let me = c.args.self.now in
    let a = me.host in
    let r = c.reserve.new.self in
    let b = c.give.new.self in
    let call = c.args.call in
    let number = c.number_of.result in
    let gave = subst (λ (done : Done). Gave a b (Begin call) done) c.number_of.ensures
    (gave_before a r b c.reserve.ensures.idle c.reserve.ensures.same c.in-Ok.done (Begin call) c.in-Ok.ensures.gave) in
    let did = gave.did in (
      client_begins_call me.id a.endpoint b.endpoint a.actor b.actor me.is_client a.hosted.fits call number did.acted did.entered,
      did.stamp,
      λ whole. behind b.endpoint.stamp (host_stamp a) did.stamp (did.entered whole).early,
    )
