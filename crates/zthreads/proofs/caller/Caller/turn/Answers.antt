use Rattle.std.proofs.Common.{◌≡◌, Option, sym, ap, subst, inr, ◌∙◌}
use Rattle.zcalls.specs.declared.reply.Reply.{Reply}
use Rattle.zactor.specs.declared.handed.Handed.TheVariants.{Nothing}
use Rattle.zactor.specs.Acting.{reply_handed}
use Rattle.zthreads.specs.Standings.{client_known, reply_heard}
use Rattle.zthreads.specs.Steps.{Heard}
use Rattle.zthreads.proofs.Hosted.{idle_both, received_before}
use Rattle.zthreads.proofs.Roles.{client_hears, reply_in_place}
use Rattle.zthreads.proofs.Wires.{same_endpoint}
use Rattle.zthreads.proofs.caller.Caller.turn.Goals as goal

pub returns-clause-turned : goal.returns-clause-turned
returns-clause-turned c =
    let me = c.args.self.now in
    let a = me.host in
    let f = c.flush.new.self in
    let r = c.reserve.new.self in
    let z = c.next_link-self.new.host in
    let b = c.turn.new.self in
    let idle = idle_both a r z (idle_both a f r c.flush.ensures.idle c.reserve.ensures.idle) c.next_link-self.ensures.idle in
    let same = same_endpoint a.endpoint r.endpoint z.endpoint
    (same_endpoint a.endpoint f.endpoint r.endpoint c.flush.ensures.same c.reserve.ensures.same) c.next_link-self.ensures.same in
    let done = c.in-Some.done in
    let heard = received_before a z b idle same done Nothing c.turn.new.handed c.in-Some.ensures.received in
    let did = heard.2.did in
    let reply : c.take_reply-reply.result ≡ reply_heard heard.1.1 done =
    c.take_reply-reply.ensures.reply ∙ ap reply_handed heard.3 ∙ reply_in_place heard.0 heard.1.1 done in
    inr (
      heard.0,
      heard.1,
      subst (λ (r : Option Reply). Heard me.id a.endpoint (client_known a.actor) b.endpoint (client_known b.actor) heard.0 heard.1 r) (sym reply)
          (client_hears me.id a.endpoint b.endpoint a.actor b.actor me.is_client a.hosted.fits heard.0 heard.1 done did.acted did.entered),
      did.stamp,
    )
