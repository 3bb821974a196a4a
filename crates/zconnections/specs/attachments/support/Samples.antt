-- Samples for the worked examples.
use Rattle.std.specs.FinMap.{empty, insert}
use Rattle.zconnections.specs.declared.attachments.attachment.Attachment.{Attachment}
use Rattle.zconnections.specs.attachments.Attachments.{AttachmentsView, new_attachment, rested}

-- session 7, opened by connection 3 before two ticks, and no other
abbrev pub some_attachment : Attachment
some_attachment = rested (rested (new_attachment 3))

abbrev pub some_attachments : AttachmentsView
some_attachments = insert empty 7 some_attachment
