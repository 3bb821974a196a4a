use Rattle.std.proofs.Common.{sym, ap, ◌∙◌}
use Rattle.std.proofs.lemmas.Result.{IfOk-weaker}
use Rattle.zconnections.specs.attachments.Attachments.{touched_ids}
use Rattle.zconnections.specs.attachments.support.Entries.{touched_among}
use Rattle.ztree.proofs.Entries.{entries-rising}
use Rattle.zconnections.proofs.attachments.table.AttachmentTable.touched.Goals as goal

pub returns : goal.returns
returns c =
    IfOk-weaker c.touched_among.result _ _
    (λ ids is. is.1 ∙ ap touched_among (sym (entries-rising c.self.inside.table.entries is.0)) ∙ ap touched_ids c.self.view_is)
    c.touched_among.ensures
