use Rattle.std.proofs.Common.{◌||◌, List, ap, ◌∙◌}
use Rattle.std.specs.List.{list_any}
use Rattle.std.specs.Ordering.{eq_by_cmp, nat_cmp}
use Rattle.zwatches.specs.declared.slot.Slot.{Slot}
use Rattle.zwatches.specs.support.Groups.{among}
use Rattle.zwatches.proofs.Slots.{connections_of}
use Rattle.zwatches.proofs.by_path.report_kind.Goals as goal

pub loop-slot-init : goal.loop-slot-init
loop-slot-init c = λ q.
    let told = among c.args.reported.now.items q in
    ap (λ (slots : List Slot). told || list_any (λ (s : Slot). eq_by_cmp nat_cmp q s.connection) slots)
    (c.into_iter-slot-iterator.ensures.into_iter_gives ∙ c.of_kind-slot-items.ensures)
    ∙ ap (λ b. told || b) (connections_of c.args.kind q c.args.slots.now.keys)
