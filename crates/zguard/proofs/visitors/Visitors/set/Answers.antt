use Rattle.std.proofs.Common.{◌≡◌, rules, None, Some, sym, ap, ◌∙◌}
use Rattle.std.specs.FinMap.{from_entries, get, insert}
use Rattle.std.specs.Option.{option_copied_mut}
use Rattle.zguard.specs.Guarding.{VisitorView}
use Rattle.zguard.proofs.Changing.{changed-absent, changed-there}
use Rattle.ztree.proofs.Entries.{get-entries, insert-entries}
use Rattle.zguard.proofs.visitors.Visitors.set.Goals as goal

pub returns-in_default : goal.returns-in_default
returns-in_default c =
    let k = c.args.connection in
    let none : get c.args.self.now k ≡ None =
    ap (λ m. get m k) (sym c.self.view_is) ∙ get-entries c.self.inside.rows.entries k ∙ sym c.get_mut.ensures.value ∙ ap option_copied_mut c.in_default.is in
    ap (λ m. from_entries m.entries) c.get_mut.follows.holds-at-none ∙ c.self.view_is
    ∙ sym (changed-absent (λ s. record { standing = c.args.standing; bytes = c.args.bytes.items }) c.args.self.now k none)

pub returns : goal.returns
returns c =
    let k = c.args.connection in
    let s = c.in-Some.visitor.now in
    let w : VisitorView = record { standing = c.args.standing; bytes = c.replace.new.dest.items } in
    let found = sym c.get_mut.ensures.value ∙ ap option_copied_mut c.in-Some.is in
    let there : get c.args.self.now k ≡ Some s = ap (λ m. get m k) (sym c.self.view_is) ∙ get-entries c.self.inside.rows.entries k ∙ found in
    insert-entries c.self.inside.rows.entries (c.get_mut.follows.lender w).entries k w ((c.get_mut.follows.holds w).3 (search rules)).0
    ∙ (λ i. insert (c.self.view_is i) k (record { standing = c.args.standing; bytes = (c.replace.ensures.after i).items }))
    ∙ sym (changed-there (λ t. record { standing = c.args.standing; bytes = c.args.bytes.items }) c.args.self.now k s there)
