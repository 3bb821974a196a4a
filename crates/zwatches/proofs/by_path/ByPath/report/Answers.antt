use Rattle.std.proofs.Common.{◌≡◌, false, ◌||◌, Option, sym, ap, ◌∙◌}
use Rattle.std.proofs.Math.Bool.{or-false}
use Rattle.std.proofs.lemmas.Result.{on_ok_weaker}
use Rattle.std.specs.BTreeSet.{BTreeSet}
use Rattle.std.specs.FinSet.{contains}
use Rattle.std.specs.Ordering.{eq_by_cmp}
use Rattle.zwatches.specs.declared.slot.Slot.{Slot}
use Rattle.zwatches.specs.Watches.{Watches, watch}
use Rattle.zwatches.specs.support.Groups.{among}
use Rattle.zwatches.specs.support.Nested.{one_of, slot, slot_cmp}
use Rattle.zwatches.proofs.ByPath.{contains-rows, names_of, slots_in}
use Rattle.zwatches.proofs.by_path.ByPath.report.Goals as goal

pub returns-in-Some : goal.returns-in-Some
returns-in-Some c =
    on_ok_weaker c.report_kind.result
    (λ is q.
    let w = watch c.args.names.now c.args.kind q in
    is q
    ∙ ap (λ b. among c.args.reported.now.items q || b)
    (ap (λ (o : Option (BTreeSet Slot)). one_of o slots_in (eq_by_cmp slot_cmp (slot c.args.kind q))) c.in-Some.ensures.value
    ∙ sym (contains-rows names_of slots_in c.self.inside.at.entries c.self.invariant w)
    ∙ ap (λ (t : Watches). contains t w) c.self.view_is
    ∙ sym (or-false (contains c.args.self.now w))))
    c.report_kind.ensures

pub returns-in-None : goal.returns-in-None
returns-in-None c = λ q.
    let w = watch c.args.names.now c.args.kind q in
    let none : false ≡ contains c.args.self.now w =
    ap (λ (o : Option (BTreeSet Slot)). one_of o slots_in (eq_by_cmp slot_cmp (slot c.args.kind q))) c.in-None.ensures.value
    ∙ sym (contains-rows names_of slots_in c.self.inside.at.entries c.self.invariant w)
    ∙ ap (λ (t : Watches). contains t w) c.self.view_is in
    sym (or-false (among c.args.reported.now.items q)) ∙ ap (λ b. among c.args.reported.now.items q || (b || false)) none
