use Rattle.std.proofs.Common.{sym, ap, ◌∙◌}
use Rattle.std.specs.FinMap as finite
use Rattle.znodes.specs.NodesView.{NodesView}
use Rattle.znodes.proofs.Found.{len-nodes}
use Rattle.znodes.proofs.nodes.Nodes.len.Goals as goal

pub returns : goal.returns
returns c =
    let s = c.self.inside in
    c.len.ensures ∙ sym (len-nodes s.slots.items s.index.ids s.owners c.self.invariant.linked) ∙ ap (λ (v : NodesView). finite.len v.nodes) c.self.view_is
