use Rattle.std.proofs.Common.{rules, ap, ◌∙◌, arith}
use Rattle.std.specs.FinMap as finite
use Rattle.zslots.specs.Generations.{generation_number}
use Rattle.zslots.proofs.Items.{some_there, slot_found}
use Rattle.zslots.proofs.slots.Slots.given.Goals as goal

pub returns-clause-given : goal.returns-clause-given
returns-clause-given g c = search rules

pub returns-clause-known : goal.returns-clause-known
returns-clause-known g c =
    λ id has.
    let there = some_there _ has in
    let slot = slot_found c.self.inside.slab.slots id there.0 (ap (λ s. finite.get s.items id) c.self.view_is ∙ there.1) in
    let below = c.self.invariant id.index slot.0 slot.1 in
    let given = ap (λ s. s.given) c.self.view_is in
    omega (arith, below, ap generation_number slot.2, given)
