use Rattle.std.proofs.Common.{None, Some, sym, ap, ◌∙◌}
use Rattle.std.specs.Option.{option_copied}
use Rattle.znodes.proofs.Shown.{count-live}
use Rattle.znodes.proofs.nodes.Nodes.child_count.Goals as goal

pub returns-in_err-row : goal.returns-in_err-row
returns-in_err-row c =
    c.from_residual.ensures
    ∙ sym (count-live c.self.inside c.self.invariant.linked c.args.self.now c.self.view_is c.args.id None (sym c.live.ensures ∙ ap option_copied c.in_err-row.was))

pub returns : goal.returns
returns c =
    ap Some c.len.ensures
    ∙ sym (count-live c.self.inside c.self.invariant.linked c.args.self.now c.self.view_is c.args.id (Some c.in_ok-row.row.now) (sym c.live.ensures ∙ ap option_copied c.in_ok-row.was))
