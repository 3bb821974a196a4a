-- Codes of attachments: proofs distinguish two attachments by their codes.
use Rattle.std.specs.Prelude.{ℕ, Bool, Option, refl}
use Rattle.std.specs.Coded.{Coded, code_by, coded×, coded_ℕ, coded_bool, coded_option}
use Rattle.std.specs.FinMap as finite
use Rattle.zconnections.specs.declared.attachments.attachment.Attachment.{Attachment}
use Rattle.zconnections.specs.attachments.Attachments.{AttachmentsView}

-- the codes of an attachment
abbrev pub coded_attachment : Coded Attachment
coded_attachment =
    code_by (Option ℕ × (Bool × (Bool × Bool))) (coded× (coded_option coded_ℕ) (coded× coded_bool (coded× coded_bool coded_bool)))
    (λ s. (s.connection, (s.is_touched, (s.was_touched, s.made_ephemeral))))
    (λ p. record { connection = p.0; is_touched = p.1.0; was_touched = p.1.1.0; made_ephemeral = p.1.1.1 }) (λ _. refl)

-- the codes of all attachments
abbrev pub coded_attachments : Coded AttachmentsView
coded_attachments = finite.code coded_ℕ coded_attachment
