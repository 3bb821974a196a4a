use Rattle.std.proofs.Common.{◌∙◌}
use Rattle.std.specs.FinMap.{insert}
use Rattle.ztree.proofs.Entries.{insert-entries}
use Rattle.znodes.proofs.owners.Owners.open.Goals as goal

pub returns-clause-ok : goal.returns-clause-ok
returns-clause-ok c =
    insert-entries c.self.inside.lists.entries c.insert.new.self.entries c.args.owner c.new.result c.in_ok-insert.ensures.updates.0
    ∙ (λ i. insert (c.self.view_is i) c.args.owner (c.new.ensures i))
