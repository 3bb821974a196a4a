use Rattle.std.proofs.Common.{◌∙◌}
use Rattle.std.specs.FinMap.{remove}
use Rattle.ztree.proofs.Entries.{remove-entries}
use Rattle.zconnections.proofs.attachments.table.AttachmentTable.remove.Goals as goal

pub returns : goal.returns
returns c =
    remove-entries c.self.inside.table.entries c.remove.new.self.entries c.number.result c.remove.ensures.updates.0
    ∙ (λ i. remove (c.self.view_is i) (c.number.ensures i))
