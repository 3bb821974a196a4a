use Rattle.std.proofs.Common.{◌≡◌, ℕ, ◌||◌}
use Rattle.std.specs.List.{list_any}
use Rattle.std.specs.Ordering.{eq_by_cmp, nat_cmp}
use Rattle.zwatches.specs.declared.slot.Slot.{Slot}
use Rattle.zwatches.specs.support.Groups.{among}
use Rattle.zwatches.specs.support.Nested.{slot, slot_cmp}
use Rattle.zwatches.proofs.by_path.report_kind.Given as goal

-- the connections so far and those of the slots that are left are all
abbrev pub invariant-loop-slot : goal.invariant-loop-slot
invariant-loop-slot l =
    (q : ℕ) → (among l.reported.items q || list_any (λ (s : Slot). eq_by_cmp nat_cmp q s.connection) l.slot-iterator)
    ≡ (among l.fn.reported.items q || list_any (eq_by_cmp slot_cmp (slot l.fn.kind q)) l.fn.slots.keys)
