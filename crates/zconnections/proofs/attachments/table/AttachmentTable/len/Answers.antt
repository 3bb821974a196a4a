use Rattle.std.proofs.Common.{ap, ◌∙◌}
use Rattle.std.specs.FinMap.{len}
use Rattle.zconnections.proofs.attachments_lemmas.Changed.{count-entries}
use Rattle.zconnections.proofs.attachments.table.AttachmentTable.len.Goals as goal

pub returns : goal.returns
returns c = c.len.ensures.len ∙ count-entries c.self.inside.table.entries c.len.ensures.ordered ∙ ap len c.self.view_is
