use Rattle.std.proofs.Common.{sym, subst}
use Rattle.zworld.specs.links.Places.{sent_of, without_receiver}
use Rattle.zworld.specs.links.support.Order.{Holds, AreSorted, is_for_others}
use Rattle.zworld.proofs.links_lemmas.Calls.{cleared}
use Rattle.zworld.proofs.links_lemmas.Noted.{cleared_seen, cleared_left}
use Rattle.zworld.proofs.links_lemmas.Sorted.{sorted_left}
use Rattle.zworld.proofs.links.links.Links.clear.Goals as goal

pub returns-clause-cleared : goal.returns-clause-cleared
returns-clause-cleared g c =
    cleared_seen c.self.view_is c.keep_others.new.queues.items c.clear.new.self c.args.to.now
    (subst (λ channels. Holds channels (without_receiver (sent_of c.self.inside.queues.items) c.args.to.now)) (sym c.keep_others.ensures)
    (cleared c.self.inside.queues.items c.args.to.now c.place-receiver.result c.place-receiver.ensures.place c.place-receiver.ensures.small))
    (λ p. search (c.clear.ensures p))

pub returns-clause-notices : goal.returns-clause-notices
returns-clause-notices g c =
    cleared_left c.self.view_is c.keep_others.new.queues.items c.clear.new.self c.args.to.now
    (subst (λ channels. Holds channels (without_receiver (sent_of c.self.inside.queues.items) c.args.to.now)) (sym c.keep_others.ensures)
    (cleared c.self.inside.queues.items c.args.to.now c.place-receiver.result c.place-receiver.ensures.place c.place-receiver.ensures.small))
    (λ p. search (c.clear.ensures p))

pub invariant_of-self : goal.invariant_of-self
invariant_of-self g c = (
  subst (λ channels. AreSorted channels) (sym c.keep_others.ensures)
      (sorted_left (is_for_others c.place-receiver.result) c.self.inside.queues.items c.self.invariant.0),
  c.self.invariant.1,
)
