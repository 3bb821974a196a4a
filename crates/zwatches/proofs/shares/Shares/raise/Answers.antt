use Rattle.std.proofs.Common.{◌+◌, ◌∙◌}
use Rattle.std.specs.FinMap.{insert}
use Rattle.ztree.proofs.Entries.{insert-entries}
use Rattle.zwatches.proofs.shares.Shares.raise.Goals as goal

pub returns-clause-ok : goal.returns-clause-ok
returns-clause-ok c =
    insert-entries c.self.inside.counts.entries c.insert.new.self.entries c.args.connection (c.of-count.result + 1) c.in_ok-insert.ensures.updates.0
    ∙ (λ i. insert (c.self.view_is i) c.args.connection (c.of-count.ensures i + 1))
