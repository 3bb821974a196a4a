use Rattle.std.proofs.Common.{◌≡◌, ◌⊎◌, Some, inl, sym, ap, ◌∙◌, ◌-◌}
use Rattle.std.specs.Option.{option_copied}
use Rattle.std.specs.FinMap as finite
use Rattle.zslots.proofs.Items.{has_some, some_same, slot_found, items-written, len-written}
use Rattle.zslots.proofs.slots.Slots.get_mut.Goals as goal

-- loans of the same ghost, that end as the same
same_lend : {N X Y : Type 0} (n : N) (f g : X → Y) → f ≡ g → ◌≡◌ {A = (N × (X → Y)) ⊎ Y} (inl (n, f)) (inl (n, g))
same_lend n f g same = ap (λ h. inl (n, h)) same

pub index_mut-slot-requires : goal.index_mut-slot-requires
index_mut-slot-requires g c =
    let found = has_some c.get.result c.if-is_none.ensures in
    let slot = slot_found c.self.inside.slab.slots c.args.id found.0.now (sym c.get.ensures ∙ ap option_copied found.1) in
    rw slot.1

pub returns : goal.returns
returns g c =
    let found = has_some c.get.result c.if-is_none.ensures in
    let there = sym c.get.ensures ∙ ap option_copied found.1 in
    let slab = c.self.inside.slab in
    let slot = slot_found slab.slots c.args.id found.0.now there in
    let x = c.index_mut-slot.result.now in
    let same = some_same x slot.0 (sym c.index_mut-slot.ensures.value ∙ slot.1) in
    let has = c.index_mut-slot.ensures.value in (
      same_lend _ _ _ (λ i. λ w. record {
        items = (items-written slab c.args.id x w has (ap (λ s. s.generation) same ∙ slot.2) ∙ ap (λ h. finite.insert h.items c.args.id w) c.self.view_is) i;
        given = (ap (λ h. h.given) c.self.view_is) i;
        room = (ap (λ n. slab.capacity - n) (len-written slab c.args.id.index x (record { generation = x.generation; item = w }) has) ∙ ap (λ h. h.room) c.self.view_is) i;
      }),
      record {
        writes_back = tt;
        value = ap (λ s. Some s.item) same ∙ ap Some slot.3 ∙ sym there ∙ ap (λ h. finite.get h.items c.args.id) c.self.view_is;
      },
    )
