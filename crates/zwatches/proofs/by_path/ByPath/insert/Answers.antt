use Rattle.std.proofs.Common.{◌≡◌, true, cond, List, Option, Some, sym, ap, ◌∙◌}
use Rattle.std.proofs.lemmas.Result.{err_from_is_err_and}
use Rattle.std.specs.Prelude.{is_some}
use Rattle.std.specs.BTreeMap.{is_at}
use Rattle.std.specs.BTreeSet.{BTreeSet}
use Rattle.std.specs.FinSet.{insert}
use Rattle.std.specs.List.{list_any}
use Rattle.std.specs.Option.{option_copied_mut}
use Rattle.std.specs.Map.{lookup}
use Rattle.std.specs.Ordering.{eq_by_cmp}
use Rattle.zpath.specs.Grammar.{path_cmp}
use Rattle.zwatches.specs.declared.slot.Slot.{Slot}
use Rattle.zwatches.specs.Watches.{Watches}
use Rattle.zwatches.specs.support.Nested.{one_of, slot_cmp, watch_at}
use Rattle.zwatches.proofs.ByPath.{more_slots, names_of, same_slots, slots_in, table_of, with_slot}
use Rattle.zwatches.proofs.by_path.ByPath.insert.Goals as goal

pub returns-in_err-insert-clause-err : goal.returns-in_err-insert-clause-err
returns-in_err-insert-clause-err c =
    let rows = c.self.inside.at.entries in
    let left = c.insert.new.self in
    let now = c.get_mut.follows.lender left in
    let is = sym c.get_mut.ensures.value ∙ ap option_copied_mut c.in-Some.is in
    let written = c.get_mut.follows.holds left in
    let updates = written.3 (ap is_some is) in
    let p = err_from_is_err_and c.from_residual.result c.from_residual.ensures.1 in
    rw p.1
    (same_slots names_of slots_in rows now.entries c.self.invariant written.4 c.args.names.now c.args.slot updates.3 (Some left) updates.1
    (λ q.
    ap (list_any (eq_by_cmp slot_cmp q)) c.in_err-insert.ensures.err
    ∙ ap (λ (o : Option (BTreeSet Slot)). one_of o slots_in (eq_by_cmp slot_cmp q)) (sym is))
    ∙ c.self.view_is)

pub returns-in-Some-clause-ok : goal.returns-in-Some-clause-ok
returns-in-Some-clause-ok c =
    let rows = c.self.inside.at.entries in
    let s = c.args.slot in
    let left = c.insert.new.self in
    let now = c.get_mut.follows.lender left in
    let is = sym c.get_mut.ensures.value ∙ ap option_copied_mut c.in-Some.is in
    let written = c.get_mut.follows.holds left in
    let updates = written.3 (ap is_some is) in
    with_slot names_of slots_in rows now.entries c.self.invariant written.4 c.args.names.now s updates.3 (Some left) updates.1
    (more_slots slots_in s _ left (λ q.
    c.in_ok-insert.ensures.updates.0 q
    ∙ ap (λ (o : Option (BTreeSet Slot)). cond (is_at (slot_cmp s) q) true (one_of o slots_in (eq_by_cmp slot_cmp q))) (sym is)))
    ∙ ap (λ (t : Watches). insert t (watch_at c.args.names.now s)) c.self.view_is

pub returns-clause-ok : goal.returns-clause-ok
returns-clause-ok c =
    let rows = c.self.inside.at.entries in
    let s = c.args.slot in
    let key = c.in_ok-key.key in
    let v = c.insert-2.new.self in
    let before = c.get_mut.follows.lender-at-none in
    let now = c.insert-3.new.self in
    let same : before.entries ≡ rows = ap (λ m. m.entries) c.get_mut.follows.holds-at-none in
    let named : key.items ≡ c.args.names.now = c.in_ok-key.ensures in
    let none = sym c.get_mut.ensures.value ∙ ap option_copied_mut c.in_default.is in
    let absent = (λ i. lookup (is_at (λ k. path_cmp (named i) (names_of k))) (same i)) ∙ none in
    with_slot names_of slots_in before.entries now.entries c.in_ok-insert-3.ensures.was_ordered c.in_ok-insert-3.ensures.ordered key.items s
    c.in_ok-insert-3.ensures.updates.3 (Some v) c.in_ok-insert-3.ensures.updates.1
    (more_slots slots_in s _ v (λ q.
    c.in_ok-insert-2.ensures.updates.0 q
    ∙ ap (λ (slots : List Slot). cond (is_at (slot_cmp s) q) true (list_any (eq_by_cmp slot_cmp q) slots)) c.new-slots.ensures.empty
    ∙ ap (λ (o : Option (BTreeSet Slot)). cond (is_at (slot_cmp s) q) true (one_of o slots_in (eq_by_cmp slot_cmp q))) (sym absent)))
    ∙ (λ i. insert (table_of names_of slots_in (same i)) (watch_at (named i) s))
    ∙ ap (λ (t : Watches). insert t (watch_at c.args.names.now s)) c.self.view_is
