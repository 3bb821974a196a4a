use Rattle.std.proofs.Common.{◌≡◌, false, cond, [], Option, None, Some, sym, ap, ◌∙◌}
use Rattle.std.specs.Prelude.{is_some}
use Rattle.std.specs.BTreeMap.{is_at}
use Rattle.std.specs.BTreeSet.{BTreeSet}
use Rattle.std.specs.FinSet.{contains, remove}
use Rattle.std.specs.List.{list_any}
use Rattle.std.specs.Option.{option_copied_mut}
use Rattle.std.specs.Ordering.{eq_by_cmp}
use Rattle.zwatches.specs.declared.slot.Slot.{Slot}
use Rattle.zwatches.specs.Watches.{Watches}
use Rattle.zwatches.specs.support.Nested.{one_of, slot_cmp, watch_at}
use Rattle.zwatches.proofs.ByPath.{contains-rows, keeps_both, less_slots, names_of, no_slots, slots_in, table_of, without_slot}
use Rattle.zwatches.proofs.Counts.{removed_none}
use Rattle.zwatches.proofs.by_path.ByPath.remove.Goals as goal
use Rattle.zwatches.proofs.by_path.ByPath.remove.Goals.{in-Some-1, in-None-1}

pub returns-in_default-clause-was : goal.returns-in_default-clause-was
returns-in_default-clause-was c =
    let at = watch_at c.args.names.now c.args.slot in
    ap (λ (o : Option (BTreeSet Slot)). one_of o slots_in (eq_by_cmp slot_cmp c.args.slot)) (sym (sym c.get_mut.ensures.value ∙ ap option_copied_mut c.in_default.is))
    ∙ sym (contains-rows names_of slots_in c.self.inside.at.entries c.self.invariant at)
    ∙ ap (λ (t : Watches). contains t at) c.self.view_is

pub returns-in_default-clause-gone : goal.returns-in_default-clause-gone
returns-in_default-clause-gone c =
    let at = watch_at c.args.names.now c.args.slot in
    let absent : contains c.args.self.now at ≡ false =
    sym (ap (λ (o : Option (BTreeSet Slot)). one_of o slots_in (eq_by_cmp slot_cmp c.args.slot)) (sym (sym c.get_mut.ensures.value ∙ ap option_copied_mut c.in_default.is))
    ∙ sym (contains-rows names_of slots_in c.self.inside.at.entries c.self.invariant at)
    ∙ ap (λ (t : Watches). contains t at) c.self.view_is) in
    ap (λ rows. table_of names_of slots_in rows) (ap (λ m. m.entries) c.get_mut.follows.holds-at-none)
    ∙ c.self.view_is
    ∙ sym (removed_none c.args.self.now at absent)

pub returns-then-is_empty-clause-was : goal.returns-then-is_empty-clause-was
returns-then-is_empty-clause-was c =
    let at = watch_at c.args.names.now c.args.slot in
    c.remove-was.ensures.test
    ∙ ap (λ (o : Option (BTreeSet Slot)). one_of o slots_in (eq_by_cmp slot_cmp c.args.slot)) (sym (sym c.get_mut.ensures.value ∙ ap option_copied_mut c.in-Some.is))
    ∙ sym (contains-rows names_of slots_in c.self.inside.at.entries c.self.invariant at)
    ∙ ap (λ (t : Watches). contains t at) c.self.view_is

pub returns-else-is_empty-clause-was : goal.returns-else-is_empty-clause-was
returns-else-is_empty-clause-was c =
    let at = watch_at c.args.names.now c.args.slot in
    c.remove-was.ensures.test
    ∙ ap (λ (o : Option (BTreeSet Slot)). one_of o slots_in (eq_by_cmp slot_cmp c.args.slot)) (sym (sym c.get_mut.ensures.value ∙ ap option_copied_mut c.in-Some.is))
    ∙ sym (contains-rows names_of slots_in c.self.inside.at.entries c.self.invariant at)
    ∙ ap (λ (t : Watches). contains t at) c.self.view_is

pub returns-else-is_empty-clause-gone : goal.returns-else-is_empty-clause-gone
returns-else-is_empty-clause-gone c =
    let rows = c.self.inside.at.entries in
    let s = c.args.slot in
    let left = c.remove-was.new.self in
    let now = c.get_mut.follows.lender left in
    let is = sym c.get_mut.ensures.value ∙ ap option_copied_mut c.in-Some.is in
    let written = c.get_mut.follows.holds left in
    let updates = written.3 (ap is_some is) in
    without_slot names_of slots_in rows now.entries c.self.invariant written.4 c.args.names.now s updates.3 (Some left) updates.1
    (less_slots slots_in s _ left (λ q.
    c.remove-was.ensures.updates.0 q
    ∙ ap (λ (o : Option (BTreeSet Slot)). cond (is_at (slot_cmp s) q) false (one_of o slots_in (eq_by_cmp slot_cmp q))) (sym is)))
    ∙ ap (λ (t : Watches). remove t (watch_at c.args.names.now s)) c.self.view_is

pub returns-then-is_empty-clause-gone : goal.returns-then-is_empty-clause-gone
returns-then-is_empty-clause-gone c =
    let rows = c.self.inside.at.entries in
    let s = c.args.slot in
    let left = c.remove-was.new.self in
    let mid = c.get_mut.follows.lender left in
    let now = c.remove.new.self in
    let is = sym c.get_mut.ensures.value ∙ ap option_copied_mut c.in-Some.is in
    let written = c.get_mut.follows.holds left in
    let updates = written.3 (ap is_some is) in
    let none : left.keys ≡ [] = no_slots left.keys (c.is_empty.ensures.0 c.if-is_empty.true) in
    let gone =
    without_slot names_of slots_in rows now.entries c.self.invariant c.remove.ensures.ordered c.args.names.now s
    (keeps_both _ _ rows mid.entries now.entries updates.3 c.remove.ensures.updates.3) None c.remove.ensures.updates.1
    (λ q.
    ap (list_any (eq_by_cmp slot_cmp q)) (sym none)
    ∙ less_slots slots_in s _ left (λ q.
    c.remove-was.ensures.updates.0 q
    ∙ ap (λ (o : Option (BTreeSet Slot)). cond (is_at (slot_cmp s) q) false (one_of o slots_in (eq_by_cmp slot_cmp q))) (sym is)) q)
    ∙ ap (λ (t : Watches). remove t (watch_at c.args.names.now s)) c.self.view_is in
    elim c.match-remove.branch [
      | in-Some-1 w ↦ w.self-is ∙ gone
      | in-None-1 w ↦ w.self-is ∙ gone
    ]
