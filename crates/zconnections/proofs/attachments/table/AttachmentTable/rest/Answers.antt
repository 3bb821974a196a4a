use Rattle.std.proofs.Common.{ap, ◌∙◌, rules}
use Rattle.std.proofs.lemmas.Map.Made.{map_same_pairs}
use Rattle.zconnections.specs.attachments.Attachments.{all_rested, rested}
use Rattle.zconnections.proofs.attachments_lemmas.Changed.{rested-entries}
use Rattle.zconnections.proofs.attachments.table.AttachmentTable.rest.Goals as goal

pub returns : goal.returns
returns c =
    let all = map_same_pairs _ rested _ (λ k v b w f' t. search rules) _ _ c.retain.ensures.filtered in
    rested-entries c.self.inside.table.entries c.retain.new.self.entries c.retain.ensures.was_ordered all ∙ ap all_rested c.self.view_is
