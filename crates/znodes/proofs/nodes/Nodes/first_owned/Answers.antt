use Rattle.std.proofs.Common.{◌≡◌, None, Some, refl, sym, ap, subst, ◌∙◌, IsSome}
use Rattle.ztree.proofs.Maps.{same_some}
use Rattle.ztree.specs.declared.node.Node.{Node}
use Rattle.znodes.proofs.Shown.{if_some, if_none, path_of-live, node_of-live, owned_row, no_ephemerals}
use Rattle.znodes.proofs.nodes.Nodes.first_owned.Goals as goal

pub returns-in_err-list-clause-none : goal.returns-in_err-list-clause-none
returns-in_err-list-clause-none c =
    if_none _ c.from_residual.result (λ none. no_ephemerals c.self.inside c.self.invariant.linked c.args.self.now c.self.view_is c.args.owner None c.requires.somebody (sym c.list.ensures ∙ c.in_err-list.was) refl)

pub returns-clause-live : goal.returns-clause-live
returns-clause-live c =
    if_some _ c.first.result (λ id is.
    let row = owned_row c.self.inside c.self.invariant.linked c.args.self.now c.self.view_is c.args.owner c.in_ok-list.field-0 id c.requires.somebody (sym c.list.ensures ∙ c.in_ok-list.was) (sym c.first.ensures ∙ is) in
    subst IsSome (sym (path_of-live c.self.inside c.self.invariant.linked c.args.self.now c.self.view_is id (Some row.0) row.1)) refl)

pub returns-clause-owned : goal.returns-clause-owned
returns-clause-owned c =
    if_some _ c.first.result (λ id is n at.
    let row = owned_row c.self.inside c.self.invariant.linked c.args.self.now c.self.view_is c.args.owner c.in_ok-list.field-0 id c.requires.somebody (sym c.list.ensures ∙ c.in_ok-list.was) (sym c.first.ensures ∙ is) in
    let node : n ≡ row.0.node = same_some n row.0.node (sym at ∙ node_of-live c.self.inside c.self.invariant.linked c.args.self.now c.self.view_is id (Some row.0) row.1) in
    ap (λ (x : Node). x.owner) node ∙ row.2)

pub returns-clause-none : goal.returns-clause-none
returns-clause-none c =
    if_none _ c.first.result (λ none. no_ephemerals c.self.inside c.self.invariant.linked c.args.self.now c.self.view_is c.args.owner (Some c.in_ok-list.field-0) c.requires.somebody (sym c.list.ensures ∙ c.in_ok-list.was) (sym c.first.ensures ∙ none))
