use Rattle.std.proofs.Common.{◌≡◌, ◌-◌, sym, ap, ◌∙◌, arith}
use Rattle.std.specs.FinMap as finite
use Rattle.slab.specs.Slab.{HasRoomFor, slab_len}
use Rattle.zslots.proofs.Items.{item_at, items-filled, items-undone, get-empty_slot, len-entries_from, id_at}
use Rattle.zslots.proofs.slots.Slots.insert.Goals as goal

-- a key within the capacity is one of an index, where all that fit have indexes
pub returns-then-index-ge-MAX_SLOTS-clause-succeeds :
    goal.returns-then-index-ge-MAX_SLOTS-clause-succeeds
returns-then-index-ge-MAX_SLOTS-clause-succeeds g c =
    λ has indexed.
    let slab = c.self.inside.slab in
    let room = ap (λ h. h.room) c.self.view_is in
    let len : finite.len c.args.self.now.items ≡ slab_len slab = ap (λ h. finite.len h.items) (sym c.self.view_is) ∙ len-entries_from 0 slab.slots in
    let fits : HasRoomFor slab 1 = omega (arith, has, room) in
    absurd (omega (arith, c.in-Ok.ensures.key_in_range, c.in-Ok.ensures.had_room fits, indexed, len, room, fits, c.if-index-ge-MAX_SLOTS.true))

pub returns-then-index-ge-MAX_SLOTS-clause-err : goal.returns-then-index-ge-MAX_SLOTS-clause-err
returns-then-index-ge-MAX_SLOTS-clause-err g c =
    let undone = items-undone c.self.inside.slab c.insert.new.self c.remove.new.self c.in-Ok.index _ c.in-Ok.ensures.was_vacant c.in-Ok.ensures.updates c.remove.ensures.updates in
    λ i. record {
      items = (undone ∙ ap (λ h. h.items) c.self.view_is) i;
      given = (ap (λ h. h.given) c.self.view_is) i;
      room = c.remove.new.self.capacity - slab_len c.remove.new.self;
    }

pub returns-clause-new : goal.returns-clause-new
returns-clause-new g c = (
  c.new-generation.ensures ∙ ap (λ h. h.given) c.self.view_is,
  ap (λ h. finite.get h.items (id_at c.in-Ok.index c.new-generation.result)) (sym c.self.view_is) ∙ get-empty_slot c.self.inside.slab.slots _ c.in-Ok.ensures.was_vacant,
)

pub returns-clause-items : goal.returns-clause-items
returns-clause-items g c =
    items-filled c.self.inside.slab c.insert.new.self c.in-Ok.index _ c.in-Ok.ensures.updates (λ generation other. ap (λ o. item_at o generation) c.in-Ok.ensures.was_vacant)
    ∙ ap (λ h. finite.insert h.items (id_at c.in-Ok.index c.new-generation.result) c.args.item) c.self.view_is
