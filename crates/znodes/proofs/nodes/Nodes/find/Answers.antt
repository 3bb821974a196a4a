use Rattle.std.proofs.Common.{sym, ap, ◌∙◌}
use Rattle.std.specs.Prelude.{is_some}
use Rattle.znodes.proofs.Shown.{if_some, path_of-found, has_node-found}
use Rattle.znodes.proofs.nodes.Nodes.find.Goals as goal

pub returns-clause-found : goal.returns-clause-found
returns-clause-found c =
    if_some _ c.get.result (λ id is. path_of-found c.self.inside c.self.invariant.linked c.args.self.now c.self.view_is c.args.path.now id (sym c.get.ensures ∙ is))

pub returns-clause-node : goal.returns-clause-node
returns-clause-node c =
    ap is_some c.get.ensures ∙ has_node-found c.self.inside c.self.invariant.linked c.args.self.now c.self.view_is c.args.path.now
