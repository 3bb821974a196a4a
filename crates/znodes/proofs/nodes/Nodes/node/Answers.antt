use Rattle.std.proofs.Common.{None, Some, sym, ap, ◌∙◌}
use Rattle.std.specs.Prelude.{is_some}
use Rattle.std.specs.Option.{option_copied}
use Rattle.znodes.proofs.Shown.{path_of-live, node_of-live}
use Rattle.znodes.proofs.nodes.Nodes.node.Goals as goal

pub returns-in_err-row-clause-value : goal.returns-in_err-row-clause-value
returns-in_err-row-clause-value c =
    ap option_copied c.from_residual.ensures
    ∙ sym (node_of-live c.self.inside c.self.invariant.linked c.args.self.now c.self.view_is c.args.id None (sym c.live.ensures ∙ ap option_copied c.in_err-row.was))

pub returns-in_err-row-clause-live : goal.returns-in_err-row-clause-live
returns-in_err-row-clause-live c =
    ap is_some c.from_residual.ensures
    ∙ sym (ap is_some (path_of-live c.self.inside c.self.invariant.linked c.args.self.now c.self.view_is c.args.id None (sym c.live.ensures ∙ ap option_copied c.in_err-row.was)))

pub returns-clause-value : goal.returns-clause-value
returns-clause-value c =
    sym (node_of-live c.self.inside c.self.invariant.linked c.args.self.now c.self.view_is c.args.id (Some c.in_ok-row.row.now) (sym c.live.ensures ∙ ap option_copied c.in_ok-row.was))

pub returns-clause-live : goal.returns-clause-live
returns-clause-live c =
    sym (ap is_some (path_of-live c.self.inside c.self.invariant.linked c.args.self.now c.self.view_is c.args.id (Some c.in_ok-row.row.now) (sym c.live.ensures ∙ ap option_copied c.in_ok-row.was)))
