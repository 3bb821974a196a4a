use Rattle.std.proofs.Common.{sym, ap, ◌∙◌}
use Rattle.std.proofs.lemmas.Result.{IfOk-weaker}
use Rattle.std.specs.Map.{keys_of}
use Rattle.std.specs.FinMap.{keys}
use Rattle.ztree.proofs.Entries.{entries-rising}
use Rattle.zconnections.proofs.attachments.table.AttachmentTable.ids.Goals as goal

pub returns : goal.returns
returns c =
    IfOk-weaker c.all_among.result _ _
    (λ ids is. is.1 ∙ ap keys_of (sym (entries-rising c.self.inside.table.entries is.0)) ∙ ap keys c.self.view_is)
    c.all_among.ensures
