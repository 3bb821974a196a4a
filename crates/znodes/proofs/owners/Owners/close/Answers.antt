use Rattle.std.proofs.Common.{ap, ◌∙◌}
use Rattle.std.specs.FinMap.{remove}
use Rattle.ztree.proofs.Entries.{remove-entries}
use Rattle.znodes.proofs.owners.Owners.close.Goals as goal

pub returns : goal.returns
returns c =
    remove-entries c.self.inside.lists.entries c.remove.new.self.entries c.args.owner c.remove.ensures.updates.0
    ∙ ap (λ lists. remove lists c.args.owner) c.self.view_is
