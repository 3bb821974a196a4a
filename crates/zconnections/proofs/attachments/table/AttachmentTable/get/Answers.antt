use Rattle.std.proofs.Common.{sym, ◌∙◌}
use Rattle.std.specs.FinMap.{get}
use Rattle.ztree.proofs.Entries.{get-entries}
use Rattle.zconnections.proofs.attachments.table.AttachmentTable.get.Goals as goal

pub returns : goal.returns
returns c =
    c.copied.ensures ∙ c.get.ensures.value ∙ sym (get-entries c.self.inside.table.entries c.number.result)
    ∙ (λ i. get (c.self.view_is i) (c.number.ensures i))
