use Rattle.std.proofs.Common.{ap, ◌∙◌}
use Rattle.std.specs.List.{filter}
use Rattle.std.specs.BTreeMap.Range.{range_contains}
use Rattle.std.specs.declared.ops.Bound.{Bound}
use Rattle.std.specs.declared.ops.Bound.TheVariants.{Included}
use Rattle.zwatches.specs.declared.slot.Slot.{Slot}
use Rattle.zwatches.specs.support.Nested.{slot, slot_cmp}
use Rattle.zwatches.proofs.Slots.{of_kind}
use Rattle.zwatches.proofs.by_path.of_kind.Goals as goal

pub returns : goal.returns
returns c =
    c.range.ensures.between tt
    ∙ ap (λ (end : Bound Slot). filter (range_contains slot_cmp (Included (slot c.args.kind 0)) end) c.args.slots.now.keys) c.end_of.ensures
    ∙ of_kind c.args.kind c.args.slots.now.keys
