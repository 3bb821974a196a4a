use Rattle.std.proofs.Common.{ap, ◌∙◌}
use Rattle.std.specs.FinMap.{remove}
use Rattle.ztree.proofs.Entries.{remove-entries}
use Rattle.zguard.proofs.visitors.Visitors.end.Goals as goal

pub returns : goal.returns
returns c =
    remove-entries c.self.inside.rows.entries c.remove.new.self.entries c.args.connection c.remove.ensures.updates.0
    ∙ ap (λ m. remove m c.args.connection) c.self.view_is
