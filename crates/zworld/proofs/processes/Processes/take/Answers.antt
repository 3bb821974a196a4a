use Rattle.std.proofs.Common.{◌≡◌, ◌∷◌, ◌++◌, [], true, false, drop, sym, ap, subst, ◌∙◌, append-nil}
use Rattle.zprotocol.specs.declared.world.event.Event.TheVariants.{Take}
use Rattle.zworld.specs.links.Places.{links_of}
use Rattle.zworld.specs.declared.did.Did.TheVariants.{Idle}
use Rattle.zworld.specs.declared.did.IdleCause.TheVariants.{Nothing}
use Rattle.zworld.specs.Held.{Held, HeldChannels, kept_world}
use Rattle.zprotocol.specs.world.History.{History}
use Rattle.zactor.specs.declared.handed.Handed.{Handed}
use Rattle.zactor.specs.declared.input.Input.TheVariants.{Hear}
use Rattle.zactor.specs.Acting.{reply_handed, reported_by}
use Rattle.zworld.specs.support.Giving.{IsReportedOf, reported_with}
use Rattle.zworld.specs.support.Stepped.{Goes, HasStepped}
use Rattle.zworld.proofs.Delivered.{delivered, not_taken, not_taken_lost, reported_as_handed}
use Rattle.zworld.proofs.Posting.{lost_read, popped_world}
use Rattle.zworld.proofs.Results.{if_ok_more}
use Rattle.zworld.proofs.processes.Processes.take.Goals as goal

-- a server that has stopped takes nothing
pub returns-then-is_lost-clause-stepped : goal.returns-then-is_lost-clause-stepped
returns-then-is_lost-clause-stepped c =
    let lost = lost_read _ c.args.self.now c.deref.result.now c.args.to true c.is_lost.result c.self.view_is c.deref.ensures.value c.is_lost.ensures
    c.if-is_lost.true in
    ([], sym (append-nil c.args.seen.now.items), not_taken_lost c.args.self.now c.args.from c.args.to lost)

-- nothing is there
pub returns-in_default-clause-stepped : goal.returns-in_default-clause-stepped
returns-in_default-clause-stepped c =
    let old = c.args.self.now in
    let none : (kept_world old []).links c.args.from c.args.to ≡ [] =
    ap (λ (h : Held). links_of h.links c.args.from c.args.to) (sym c.self.view_is) ∙ c.in_default.ensures.front in
    let still = ap (λ (links : HeldChannels). record { actors = c.self.inside.actors.items; links = links }) c.in_default.ensures.same
    ∙ c.self.view_is in (
      [],
      sym (append-nil c.args.seen.now.items),
      subst (λ (new : Held). HasStepped old new (Take c.args.from c.args.to) (Idle Nothing) []) (sym still)
          (not_taken old c.args.from c.args.to none),
    )

-- a message is heard
pub returns-in-Ok-clause-stepped : goal.returns-in-Ok-clause-stepped
returns-in-Ok-clause-stepped c =
    let old = c.args.self.now in
    let message = c.in-Some.message in
    let held : Held = record { actors = c.self.inside.actors.items; links = c.self.inside.links } in
    let mid : Held = record { actors = c.self.inside.actors.items; links = c.next.new.self } in
    let rest = drop 1 (links_of held.links c.args.from c.args.to) in
    let alive = lost_read held old c.deref.result.now c.args.to false c.is_lost.result c.self.view_is c.deref.ensures.value c.is_lost.ensures
    c.if-is_lost.false in
    let there : (kept_world old []).links c.args.from c.args.to ≡ message ∷ rest =
    ap (λ (h : Held). links_of h.links c.args.from c.args.to) (sym c.self.view_is) ∙ c.in-Some.ensures.front in
    let seen : reported_with c.args.to c.in-Ok.done (reply_handed c.give.new.handed) ≡ reported_by c.args.to (Hear c.args.from message) c.in-Ok.done =
    ap (λ (h : Handed). reported_with c.args.to c.in-Ok.done (reply_handed h)) c.in-Ok.ensures.handed
    ∙ reported_as_handed c.args.to c.args.from message c.in-Ok.done in
    if_ok_more
    (IsReportedOf (reported_with c.args.to c.in-Ok.done (reply_handed c.give.new.handed)) c.in-Ok.done c.args.seen.now.items c.reported_of-did.new.seen.items)
    (Goes old c.give.new.self (Take c.args.from c.args.to) c.args.seen.now c.reported_of-did.new.seen) c.reported_of-did.result c.reported_of-did.ensures.reported
    (λ did reported. delivered old mid c.give.new.self c.args.from message rest c.args.seen.now.items c.reported_of-did.new.seen.items did c.args.to c.in-Ok.done
    there alive
    (popped_world old held c.next.new.self c.args.from c.args.to c.self.view_is c.in-Some.ensures.rest) c.in-Ok.ensures.given
    (reported.0 ∙ ap (λ (h : History). c.args.seen.now.items ++ h) seen, reported.1))
