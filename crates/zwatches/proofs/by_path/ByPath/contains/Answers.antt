use Rattle.std.proofs.Common.{sym, ap, ◌∙◌, Option}
use Rattle.std.specs.BTreeSet.{BTreeSet}
use Rattle.std.specs.FinSet.{contains}
use Rattle.std.specs.Ordering.{eq_by_cmp}
use Rattle.zwatches.specs.declared.slot.Slot.{Slot}
use Rattle.zwatches.specs.Watches.{Watches}
use Rattle.zwatches.specs.support.Nested.{one_of, slot_cmp, watch_at}
use Rattle.zwatches.proofs.ByPath.{contains-rows, names_of, slots_in}
use Rattle.zwatches.proofs.by_path.ByPath.contains.Goals as goal

pub returns-in-Some : goal.returns-in-Some
returns-in-Some c =
    let at = watch_at c.args.names.now c.args.slot in
    c.contains.ensures
    ∙ ap (λ (o : Option (BTreeSet Slot)). one_of o slots_in (eq_by_cmp slot_cmp c.args.slot)) c.in-Some.ensures.value
    ∙ sym (contains-rows names_of slots_in c.self.inside.at.entries c.self.invariant at)
    ∙ ap (λ (t : Watches). contains t at) c.self.view_is

pub returns-in-None : goal.returns-in-None
returns-in-None c =
    let at = watch_at c.args.names.now c.args.slot in
    ap (λ (o : Option (BTreeSet Slot)). one_of o slots_in (eq_by_cmp slot_cmp c.args.slot)) c.in-None.ensures.value
    ∙ sym (contains-rows names_of slots_in c.self.inside.at.entries c.self.invariant at)
    ∙ ap (λ (t : Watches). contains t at) c.self.view_is
