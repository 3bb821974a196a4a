use Rattle.std.proofs.Common.{◌≡◌, [], insert, subst, sym}
use Rattle.zworld.specs.links.Places.{sent_of, with_last}
use Rattle.zworld.specs.links.support.Order.{Holds, AreSorted}
use Rattle.zworld.proofs.links_lemmas.Calls.{put_there, sorted_there, put_first, first_sorted}
use Rattle.zworld.proofs.links_lemmas.Noted.{put_seen}
use Rattle.zworld.proofs.links_lemmas.Results.{on_ok, in_either}
use Rattle.zworld.proofs.links.links.Links.put.Goals as goal

-- a message is appended to a queue
pub invariant_of-self : goal.invariant_of-self
invariant_of-self g c = (
  sorted_there c.deref.ensures.value c.args.from.now c.args.to.now c.place-sender.ensures.place c.place-receiver.ensures.place
      c.place-sender.ensures.small c.place-receiver.ensures.small c.in-Ok.ensures.found c.index_mut.ensures.value
      c.put.new.self c.put.ensures.places.0 c.put.ensures.places.1,
  c.self.invariant.1,
)

pub returns-in-Ok-clause-put : goal.returns-in-Ok-clause-put
returns-in-Ok-clause-put g c =
    on_ok c.put.result c.put.ensures.put (λ so.
    put_seen c.self.view_is _ c.args.from.now c.args.to.now c.args.message c.requires
    (put_there c.deref.ensures.value c.args.from.now c.args.to.now c.place-sender.ensures.place c.place-receiver.ensures.place
    c.place-sender.ensures.small c.place-receiver.ensures.small c.in-Ok.ensures.found c.index_mut.ensures.value
    c.put.new.self c.put.ensures.places.0 c.put.ensures.places.1 c.args.message so))

-- a queue is inserted
pub invariant_of-self-in-Err : goal.invariant_of-self-in-Err
invariant_of-self-in-Err g c = (
  in_either (λ queues. AreSorted queues) c.insert_at.result c.insert_at.new.queues.items
      (insert c.self.inside.queues.items c.in-Err.at c.new-queue.result)
      c.self.inside.queues.items c.insert_at.ensures.inserted c.insert_at.ensures.same
      (first_sorted c.deref.ensures.value c.args.from.now c.args.to.now c.place-sender.ensures.place c.place-receiver.ensures.place
      c.place-sender.ensures.small c.place-receiver.ensures.small c.in-Err.ensures.gap c.new-queue.ensures)
      c.self.invariant.0,
  c.self.invariant.1,
)

pub returns-in-Err-clause-put : goal.returns-in-Err-clause-put
returns-in-Err-clause-put g c =
    let made : c.new-queue.result ≡ record { from = c.place-sender.result; to = c.place-receiver.result; front = c.args.message; others = [] } =
    search (c.new-queue.ensures) in
    on_ok c.insert_at.result c.insert_at.ensures.inserted (λ so.
    put_seen c.self.view_is c.insert_at.new.queues.items c.args.from.now c.args.to.now c.args.message c.requires
    (subst (λ queues. Holds queues (with_last (sent_of c.self.inside.queues.items) c.args.from.now c.args.to.now c.args.message)) (sym so)
    (put_first c.deref.ensures.value c.args.from.now c.args.to.now c.place-sender.ensures.place c.place-receiver.ensures.place
    c.place-sender.ensures.small c.place-receiver.ensures.small c.in-Err.ensures.gap made)))
