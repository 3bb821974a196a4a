use Rattle.std.proofs.Common.{◌≡◌, None, Some, sym, ap, ◌∙◌}
use Rattle.std.specs.FinMap.{get}
use Rattle.std.specs.Option.{option_map, option_copied}
use Rattle.zguard.specs.Guarding.{VisitorView}
use Rattle.ztree.proofs.Entries.{get-entries}
use Rattle.zguard.proofs.visitors.Visitors.standing.Goals as goal

pub returns-in_err-visitor : goal.returns-in_err-visitor
returns-in_err-visitor c =
    let k = c.args.connection in
    let none : get c.args.self.now k ≡ None =
    ap (λ m. get m k) (sym c.self.view_is) ∙ get-entries c.self.inside.rows.entries k ∙ sym c.get.ensures.value ∙ ap option_copied c.in_err-visitor.was in
    c.from_residual.ensures ∙ sym (ap (option_map (λ (s : VisitorView). s.standing)) none)

pub returns : goal.returns
returns c =
    let k = c.args.connection in
    let there : get c.args.self.now k ≡ Some c.in_ok-visitor.visitor.now =
    ap (λ m. get m k) (sym c.self.view_is) ∙ get-entries c.self.inside.rows.entries k ∙ sym c.get.ensures.value ∙ ap option_copied c.in_ok-visitor.was in
    ap (λ (s : VisitorView). Some s.standing) c.visitor.view_is ∙ sym (ap (option_map (λ (s : VisitorView). s.standing)) there)
