use Rattle.std.proofs.Common.{◌∙◌}
use Rattle.std.specs.FinMap.{insert}
use Rattle.ztree.proofs.Entries.{insert-entries}
use Rattle.zconnections.proofs.attachments.table.AttachmentTable.insert.Goals as goal

pub returns-clause-ok : goal.returns-clause-ok
returns-clause-ok c =
    insert-entries c.self.inside.table.entries c.insert.new.self.entries c.number.result c.args.attachment c.in_ok-insert.ensures.updates.0
    ∙ (λ i. insert (c.self.view_is i) (c.number.ensures i) c.args.attachment)
