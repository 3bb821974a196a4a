use Rattle.std.proofs.Common.{◌≡◌, ◌<◌, None, ap, arith, get_or, length, set, sym, subst, ◌∙◌, length-set}
use Rattle.std.proofs.lemmas.List.{get_or-set_same}
use Rattle.ztree.proofs.Maps.{same_some}
use Rattle.zrun.specs.declared.client.Client.{Client}
use Rattle.zrun.specs.Clients.{BelongsTo, number_of}
use Rattle.zrun.proofs.Places.{has_place, in_set}
use Rattle.zrun.proofs.clients.Clients.put.Goals as goal

pub invariant_of-self : goal.invariant_of-self
invariant_of-self c =
    let cs = c.args.self.now in
    let place = c.number-place.result in
    let client = c.args.client in
    let slot = c.replace.new.self in
    record {
      many = length-set cs.places.items place slot ∙ cs.many;
      own = in_set cs.run.value.items cs.places.items cs.own place slot (λ x is.
          subst (λ (y : Client). BelongsTo cs.run.value.items y × (number_of y ≡ place)) (same_some client x (sym c.replace.ensures.after ∙ is))
          (c.requires, sym (c.number-place.ensures.same ∙ c.id.ensures)));
    }

pub index_mut-requires : goal.index_mut-requires
index_mut-requires c =
    let cs = c.args.self.now in
    let place : c.number-place.result ≡ number_of c.args.client = c.number-place.ensures.same ∙ c.id.ensures in
    let has = has_place cs.run.value.items c.args.client c.requires in
    let many = cs.many in
    let ok = cs.places.ok in
    omega (arith, place, has, many, ok)

pub returns-clause-back : goal.returns-clause-back
returns-clause-back c =
    let cs = c.args.self.now in
    let client = c.args.client in
    let place : c.number-place.result ≡ number_of client = c.number-place.ensures.same ∙ c.id.ensures in
    let has = has_place cs.run.value.items client c.requires in
    let many = cs.many in
    let within : c.number-place.result < length cs.places.items = omega (arith, place, has, many) in
    ap (λ m. get_or (set cs.places.items c.number-place.result c.replace.new.self) m None) (sym place)
    ∙ get_or-set_same cs.places.items c.number-place.result c.replace.new.self None within
    ∙ c.replace.ensures.after
