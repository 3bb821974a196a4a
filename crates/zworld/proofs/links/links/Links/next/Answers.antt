use Rattle.std.proofs.Common.{◌≡◌, [], ◌∷◌, drop, set, remove, sym, ap, subst, ◌∙◌}
use Rattle.zprotocol.specs.declared.message.Message.TheVariants.{Gone}
use Rattle.zworld.specs.links.Places.{Channel, messages, sent_of, links_of, without_first, notices_left, Keeps, Notes}
use Rattle.zworld.proofs.links_lemmas.Calls.{front_there, next_there, sorted_there, gone_there, taken_there, none_there}
use Rattle.zworld.proofs.links_lemmas.Noted.{next_seen, front_seen, left_seen, empty_seen, gone_seen, took_seen, took_left, first_of_none, left_over}
use Rattle.zworld.proofs.links.links.Links.next.Goals as goal

-- nothing was sent, and a notice is taken
pub returns-then-take-clause-rest : goal.returns-then-take-clause-rest
returns-then-take-clause-rest g c =
    let nothing : sent_of c.self.inside.queues.items c.args.from.now c.args.to.now ≡ [] =
    none_there c.deref.ensures.value c.args.from.now c.args.to.now c.place-sender.ensures.place c.place-receiver.ensures.place
    c.place-sender.ensures.small c.place-receiver.ensures.small c.in_default.ensures.gap in
    took_seen c.self.view_is c.args.from.now c.args.to.now nothing c.take.new.self (sym c.take.ensures.found ∙ c.if-take.true) c.take.ensures.left

pub returns-then-take-clause-front : goal.returns-then-take-clause-front
returns-then-take-clause-front g c =
    let nothing : sent_of c.self.inside.queues.items c.args.from.now c.args.to.now ≡ [] =
    none_there c.deref.ensures.value c.args.from.now c.args.to.now c.place-sender.ensures.place c.place-receiver.ensures.place
    c.place-sender.ensures.small c.place-receiver.ensures.small c.in_default.ensures.gap in
    let there = gone_seen c.self.view_is c.args.from.now c.args.to.now nothing (sym c.take.ensures.found ∙ c.if-take.true) in
    there ∙ ap (λ ms. Gone ∷ drop 1 ms) (sym there)

pub returns-then-take-clause-notices : goal.returns-then-take-clause-notices
returns-then-take-clause-notices g c =
    let nothing : sent_of c.self.inside.queues.items c.args.from.now c.args.to.now ≡ [] =
    none_there c.deref.ensures.value c.args.from.now c.args.to.now c.place-sender.ensures.place c.place-receiver.ensures.place
    c.place-sender.ensures.small c.place-receiver.ensures.small c.in_default.ensures.gap in
    took_left c.self.view_is c.args.from.now c.args.to.now nothing c.take.new.self (sym c.take.ensures.found ∙ c.if-take.true) c.take.ensures.left

-- or there is none
pub returns-in_default-clause-rest : goal.returns-in_default-clause-rest
returns-in_default-clause-rest g c =
    let nothing : sent_of c.self.inside.queues.items c.args.from.now c.args.to.now ≡ [] =
    none_there c.deref.ensures.value c.args.from.now c.args.to.now c.place-sender.ensures.place c.place-receiver.ensures.place
    c.place-sender.ensures.small c.place-receiver.ensures.small c.in_default.ensures.gap in
    let same : record { sent = c.self.inside.queues.items; noted = c.take.new.self } ≡ c.args.self.now =
    ap (λ noted. record { sent = c.self.inside.queues.items; noted = noted }) (c.take.ensures.same c.if-take.false) ∙ c.self.view_is in
    subst (λ v. Keeps v (without_first (links_of c.args.self.now) c.args.from.now c.args.to.now)) (sym same)
    (first_of_none c.args.self.now c.args.from.now c.args.to.now
    (empty_seen c.self.view_is c.args.from.now c.args.to.now nothing (sym c.take.ensures.found ∙ c.if-take.false)))

pub returns-in_default-clause-front : goal.returns-in_default-clause-front
returns-in_default-clause-front g c =
    let nothing : sent_of c.self.inside.queues.items c.args.from.now c.args.to.now ≡ [] =
    none_there c.deref.ensures.value c.args.from.now c.args.to.now c.place-sender.ensures.place c.place-receiver.ensures.place
    c.place-sender.ensures.small c.place-receiver.ensures.small c.in_default.ensures.gap in
    empty_seen c.self.view_is c.args.from.now c.args.to.now nothing (sym c.take.ensures.found ∙ c.if-take.false)

pub returns-in_default-clause-notices : goal.returns-in_default-clause-notices
returns-in_default-clause-notices g c =
    let same : record { sent = c.self.inside.queues.items; noted = c.take.new.self } ≡ c.args.self.now =
    ap (λ noted. record { sent = c.self.inside.queues.items; noted = noted }) (c.take.ensures.same c.if-take.false) ∙ c.self.view_is in
    subst (λ v. Notes v (notices_left c.args.self.now (links_of v))) (sym same) (left_over c.args.self.now)

-- there is more after the front
pub invariant_of-self-in-Some : goal.invariant_of-self-in-Some
invariant_of-self-in-Some g c = (
  sorted_there c.deref.ensures.value c.args.from.now c.args.to.now c.place-sender.ensures.place c.place-receiver.ensures.place
      c.place-sender.ensures.small c.place-receiver.ensures.small c.in-Ok.ensures.found c.index_mut.ensures.value
      c.next.new.self c.next.ensures.places.0 c.next.ensures.places.1,
  c.self.invariant.1,
)

pub returns-in-Some-clause-rest : goal.returns-in-Some-clause-rest
returns-in-Some-clause-rest g c =
    let was : sent_of c.self.inside.queues.items c.args.from.now c.args.to.now ≡ messages c.index_mut.result.now =
    front_there c.deref.ensures.value c.args.from.now c.args.to.now c.place-sender.ensures.place c.place-receiver.ensures.place
    c.place-sender.ensures.small c.place-receiver.ensures.small c.in-Ok.ensures.found c.index_mut.ensures.value in
    next_seen c.self.view_is c.args.from.now c.args.to.now c.index_mut.result.now.front c.index_mut.result.now.others was _
    (next_there c.deref.ensures.value c.args.from.now c.args.to.now c.place-sender.ensures.place c.place-receiver.ensures.place
    c.place-sender.ensures.small c.place-receiver.ensures.small c.in-Ok.ensures.found c.index_mut.ensures.value
    c.next.new.self c.next.ensures.places.0 c.next.ensures.places.1 c.in-Some.ensures.more.1)

pub returns-in-Some-clause-front : goal.returns-in-Some-clause-front
returns-in-Some-clause-front g c =
    let was : sent_of c.self.inside.queues.items c.args.from.now c.args.to.now ≡ messages c.index_mut.result.now =
    front_there c.deref.ensures.value c.args.from.now c.args.to.now c.place-sender.ensures.place c.place-receiver.ensures.place
    c.place-sender.ensures.small c.place-receiver.ensures.small c.in-Ok.ensures.found c.index_mut.ensures.value in
    let queued = front_seen c.self.view_is c.args.from.now c.args.to.now c.index_mut.result.now.front c.index_mut.result.now.others was in
    queued ∙ (λ i. sym c.in-Some.ensures.more.0 i ∷ drop 1 (sym queued i))

pub returns-in-Some-clause-notices : goal.returns-in-Some-clause-notices
returns-in-Some-clause-notices g c =
    let was : sent_of c.self.inside.queues.items c.args.from.now c.args.to.now ≡ messages c.index_mut.result.now =
    front_there c.deref.ensures.value c.args.from.now c.args.to.now c.place-sender.ensures.place c.place-receiver.ensures.place
    c.place-sender.ensures.small c.place-receiver.ensures.small c.in-Ok.ensures.found c.index_mut.ensures.value in
    left_seen c.self.view_is c.args.from.now c.args.to.now c.index_mut.result.now.front c.index_mut.result.now.others was _

-- the front is the only message
pub returns-clause-rest : goal.returns-clause-rest
returns-clause-rest g c =
    let was : sent_of c.self.inside.queues.items c.args.from.now c.args.to.now ≡ messages c.index_mut.result.now =
    front_there c.deref.ensures.value c.args.from.now c.args.to.now c.place-sender.ensures.place c.place-receiver.ensures.place
    c.place-sender.ensures.small c.place-receiver.ensures.small c.in-Ok.ensures.found c.index_mut.ensures.value in
    let left = remove (set c.self.inside.queues.items c.in-Ok.at c.next.new.self) c.in-Ok.at in
    let removed : c.remove_at-emptied.new.queues.items ≡ left = search (c.remove_at-emptied.ensures.items) in
    next_seen c.self.view_is c.args.from.now c.args.to.now c.index_mut.result.now.front c.index_mut.result.now.others was _
    (gone_there c.deref.ensures.value c.args.from.now c.args.to.now c.place-sender.ensures.place c.place-receiver.ensures.place
    c.place-sender.ensures.small c.place-receiver.ensures.small c.in-Ok.ensures.found c.index_mut.ensures.value
    c.next.new.self removed c.in_default-next.ensures.only.0)

pub returns-clause-front : goal.returns-clause-front
returns-clause-front g c =
    let was : sent_of c.self.inside.queues.items c.args.from.now c.args.to.now ≡ messages c.index_mut.result.now =
    front_there c.deref.ensures.value c.args.from.now c.args.to.now c.place-sender.ensures.place c.place-receiver.ensures.place
    c.place-sender.ensures.small c.place-receiver.ensures.small c.in-Ok.ensures.found c.index_mut.ensures.value in
    let queued = front_seen c.self.view_is c.args.from.now c.args.to.now c.index_mut.result.now.front c.index_mut.result.now.others was in
    let taken : c.remove_at-emptied.result ≡ c.index_mut.result.now =
    taken_there c.deref.ensures.value c.args.from.now c.args.to.now c.place-sender.ensures.place c.place-receiver.ensures.place
    c.place-sender.ensures.small c.place-receiver.ensures.small c.in-Ok.ensures.found c.index_mut.ensures.value
    c.next.new.self c.remove_at-emptied.ensures.items c.in_default-next.ensures.only.1 c.remove_at-emptied.result c.remove_at-emptied.ensures.value in
    let front : c.into_front.result ≡ c.index_mut.result.now.front = c.into_front.ensures ∙ ap (λ (q : Channel _). q.front) taken in
    queued ∙ (λ i. sym front i ∷ drop 1 (sym queued i))

pub returns-clause-notices : goal.returns-clause-notices
returns-clause-notices g c =
    let was : sent_of c.self.inside.queues.items c.args.from.now c.args.to.now ≡ messages c.index_mut.result.now =
    front_there c.deref.ensures.value c.args.from.now c.args.to.now c.place-sender.ensures.place c.place-receiver.ensures.place
    c.place-sender.ensures.small c.place-receiver.ensures.small c.in-Ok.ensures.found c.index_mut.ensures.value in
    left_seen c.self.view_is c.args.from.now c.args.to.now c.index_mut.result.now.front c.index_mut.result.now.others was _
