use Rattle.std.proofs.Common.{◌≡◌, ◌<◌, true≢false, length, sym, ap, ◌∙◌, length-set, arith}
use Rattle.std.specs.Option.{is_some}
use Rattle.atomic_table.proofs.Lists.{at_index}
use Rattle.zrun.specs.declared.client.Client.{Client}
use Rattle.zrun.specs.Clients.{BelongsTo, number_of}
use Rattle.zrun.proofs.Places.{if_there, in_set}
use Rattle.zrun.proofs.clients.Clients.take.Goals as goal

pub invariant_of-self : goal.invariant_of-self
invariant_of-self c =
    let cs = c.args.self.now in
    let place = c.number-place.result in
    let left = c.take.new.self in
    record {
      many = length-set cs.places.items place left ∙ cs.many;
      own = in_set cs.run.value.items cs.places.items cs.own place left (λ x is. absurd (true≢false (ap is_some (sym is ∙ c.take.ensures.after))));
    }

pub returns-clause-own : goal.returns-clause-own
returns-clause-own c =
    let cs = c.args.self.now in
    let place = c.number-place.result in
    let here = c.index_mut.result.now in
    let below = c.if-place-len.false in
    let len = c.len.ensures in
    let ok = cs.places.ok in
    let lt : place < length cs.places.items = omega (arith, below, len, ok) in
    if_there c.take.result (λ (x : Client). BelongsTo cs.run.value.items x × (number_of x ≡ c.args.id)) (λ x is.
    let own = cs.own place here (at_index cs.places.items place here lt c.index_mut.ensures.value) x (sym c.take.ensures.value ∙ is) in
    (own.0, own.1 ∙ c.number-place.ensures.same))
