use Rattle.std.proofs.Common.{Some, sym, ap, ◌∙◌, is_some}
use Rattle.std.specs.Option.{option_copied}
use Rattle.std.specs.FinMap as finite
use Rattle.zslots.proofs.Items.{some_same, slot_found, items-emptied, id_at}
use Rattle.zslots.specs.Fields.{items_of}
use Rattle.zslots.proofs.Maps.{remove-absent}
use Rattle.zslots.proofs.slots.Slots.remove.Goals as goal

pub returns-in_err-get-clause-items : goal.returns-in_err-get-clause-items
returns-in_err-get-clause-items g c = sym (remove-absent _ c.args.id (ap is_some (sym c.get.ensures ∙ ap option_copied c.in_err-get.was)))

pub remove-requires : goal.remove-requires
remove-requires g c =
    let there = sym c.get.ensures ∙ ap option_copied c.in_ok-get.was in
    let slot = slot_found c.self.inside.slab.slots c.args.id c.in_ok-get.field-0.now (ap (λ h. finite.get h.items c.args.id) c.self.view_is ∙ there) in
    rw slot.1

pub returns-clause-item : goal.returns-clause-item
returns-clause-item g c =
    let there = sym c.get.ensures ∙ ap option_copied c.in_ok-get.was in
    let slot = slot_found c.self.inside.slab.slots c.args.id c.in_ok-get.field-0.now (ap (λ h. finite.get h.items c.args.id) c.self.view_is ∙ there) in
    let same = some_same c.remove.result slot.0 (sym c.remove.ensures.value ∙ slot.1) in
    ap (λ s. Some s.item) same ∙ ap Some slot.3 ∙ sym there

pub returns-clause-items : goal.returns-clause-items
returns-clause-items g c =
    let there = sym c.get.ensures ∙ ap option_copied c.in_ok-get.was in
    let slab = c.self.inside.slab in
    let slot = slot_found slab.slots c.args.id c.in_ok-get.field-0.now (ap (λ h. finite.get h.items c.args.id) c.self.view_is ∙ there) in
    let same = some_same c.remove.result slot.0 (sym c.remove.ensures.value ∙ slot.1) in
    items-emptied slab c.remove.new.self c.args.id.index c.remove.result c.remove.ensures.value c.remove.ensures.updates
    ∙ ap (λ k. finite.remove (items_of slab.slots) (id_at c.args.id.index k)) (ap (λ s. s.generation) same ∙ slot.2)
    ∙ ap (λ h. finite.remove h.items c.args.id) c.self.view_is
