use Rattle.std.proofs.Common.{◌≡◌, rules, [], None, Some, sym, ap, ◌∙◌}
use Rattle.std.specs.FinMap.{from_entries, get, insert}
use Rattle.std.specs.Option.{option_copied_mut, option_map_or}
use Rattle.zguard.specs.Guarding.{VisitorView}
use Rattle.zguard.proofs.Changing.{changed-absent, changed-there}
use Rattle.ztree.proofs.Entries.{get-entries, insert-entries}
use Rattle.zguard.proofs.visitors.Visitors.take.Goals as goal

pub returns-in_default-clause-bytes : goal.returns-in_default-clause-bytes
returns-in_default-clause-bytes c =
    let k = c.args.connection in
    let none : get c.args.self.now k ≡ None =
    ap (λ m. get m k) (sym c.self.view_is) ∙ get-entries c.self.inside.rows.entries k ∙ sym c.get_mut.ensures.value ∙ ap option_copied_mut c.in_default.is in
    c.new-empty.ensures.items ∙ sym (ap (λ o. option_map_or (λ (s : VisitorView). s.bytes) o []) none)

pub returns-in_default-clause-rest : goal.returns-in_default-clause-rest
returns-in_default-clause-rest c =
    let k = c.args.connection in
    let none : get c.args.self.now k ≡ None =
    ap (λ m. get m k) (sym c.self.view_is) ∙ get-entries c.self.inside.rows.entries k ∙ sym c.get_mut.ensures.value ∙ ap option_copied_mut c.in_default.is in
    ap (λ m. from_entries m.entries) c.get_mut.follows.holds-at-none ∙ c.self.view_is
    ∙ sym (changed-absent (λ s. record s { bytes = [] }) c.args.self.now k none)

pub returns-clause-bytes : goal.returns-clause-bytes
returns-clause-bytes c =
    let k = c.args.connection in
    let there : get c.args.self.now k ≡ Some c.in-Some.visitor.now =
    ap (λ m. get m k) (sym c.self.view_is) ∙ get-entries c.self.inside.rows.entries k ∙ sym c.get_mut.ensures.value ∙ ap option_copied_mut c.in-Some.is in
    ap (λ v. v.items) c.replace.ensures.value ∙ ap (λ (s : VisitorView). s.bytes) c.visitor.view_is
    ∙ sym (ap (λ o. option_map_or (λ (s : VisitorView). s.bytes) o []) there)

pub returns-clause-rest : goal.returns-clause-rest
returns-clause-rest c =
    let k = c.args.connection in
    let s = c.in-Some.visitor.now in
    let w : VisitorView = record { standing = c.visitor.inside.standing; bytes = c.replace.new.dest.items } in
    let there : get c.args.self.now k ≡ Some s =
    ap (λ m. get m k) (sym c.self.view_is) ∙ get-entries c.self.inside.rows.entries k ∙ sym c.get_mut.ensures.value ∙ ap option_copied_mut c.in-Some.is in
    insert-entries c.self.inside.rows.entries (c.get_mut.follows.lender w).entries k w ((c.get_mut.follows.holds w).3 (search rules)).0
    ∙ (λ i. insert (c.self.view_is i) k (record (c.visitor.view_is i) { bytes = (c.replace.ensures.after i).items }))
    ∙ ap (λ bytes. insert c.args.self.now k (record s { bytes = bytes })) c.new-empty.ensures.items
    ∙ sym (changed-there (λ t. record t { bytes = [] }) c.args.self.now k s there)
