-- Messages are a form.
use Rattle.std.proofs.Common.{◌≡◌, ◌<◌, ℕ, List, length, length-append, ◌++◌, Ok, refl, arith}
use Rattle.std.specs.Int.{w8, w32}
use Rattle.zcodec.specs.Forms.{number, empty}
use Rattle.zcodec.specs.Choices.{sized}
use Rattle.zcodec.specs.Laws.{IsForm}
use Rattle.zcodec.proofs.Numbers.{is_u8, is_u32, is_empty}
use Rattle.zcodec.proofs.Parts.{is_both}
use Rattle.zcodec.proofs.Choices.{is_sized}
use Rattle.zjute.proofs.Before.{Anything, before, is_form}
use Rattle.zjute.proofs.Tags.{again_as, is_by_tag}
use Rattle.zconnections.specs.buffers.Inputs.{Opened, Came, Ended, Tick}
use Rattle.zwire.proofs.records_lemmas.Sums.{none_take, one_takes}
use Rattle.zdaemon.specs.declared.pipe.limits.TheConstants.{MAX_CAME}
use Rattle.zdaemon.specs.pipe.Messages.{MessageView, Input, Keep, came, message_at, message_spelled, message}

pub is_came : IsForm came
unfolding came
is_came = is_both (number w32) (sized MAX_CAME) is_u32 (is_sized MAX_CAME (omega arith))

message_again : (it : MessageView) (rest : List ℕ) → Anything rest → (message_spelled it).fits
    → message_at (message_spelled it).tag ((message_spelled it).text ++ rest) ≡ Ok (it, rest)
unfolding message_at
message_again (Input (Opened connection)) rest any fits = again_as Anything (number w32) (λ c. Input (Opened c))
    (before Anything (number w32) is_u32) connection rest any fits
message_again (Input (Came connection bytes)) rest any fits = again_as Anything came (λ x. Input (Came x.0 x.1))
    (before Anything came is_came) (connection, bytes) rest any fits
message_again (Input (Ended connection)) rest any fits = again_as Anything (number w32) (λ c. Input (Ended c))
    (before Anything (number w32) is_u32) connection rest any fits
message_again (Input Tick) rest any fits = again_as Anything empty (λ _. Input Tick) (before Anything empty is_empty) tt rest any fits
message_again Keep rest any fits = again_as Anything empty (λ _. Keep) (before Anything empty is_empty) tt rest any fits

pub is_message : IsForm message
unfolding message message_at
is_message = is_form message (is_by_tag Anything (number w8) message_at message_spelled is_u8
    (one_takes message_spelled 0 (number w32) (λ c. Input (Opened c)) _ is_u32 (λ x. refl) (λ x. refl) (λ x fits. fits)
    (one_takes message_spelled 1 came (λ x. Input (Came x.0 x.1)) _ is_came (λ x. refl) (λ x. refl) (λ x fits. fits)
    (one_takes message_spelled 2 (number w32) (λ c. Input (Ended c)) _ is_u32 (λ x. refl) (λ x. refl) (λ x fits. fits)
    (one_takes message_spelled 3 empty (λ _. Input Tick) _ is_empty (λ x. refl) (λ x. refl) (λ x fits. fits)
    (one_takes message_spelled 4 empty (λ _. Keep) _ is_empty (λ x. refl) (λ x. refl) (λ x fits. fits)
    (none_take message_spelled))))))
    message_again)

-- each has a byte: its tag
pub message_some : (it : MessageView) → 0 < length (message.spell it)
unfolding message
message_some it = omega (arith, length-append ((number w8).spell (message_spelled it).tag) (message_spelled it).text)

-- what follows a message is shorter
pub shorter : (it : MessageView) (bytes more : List ℕ) → bytes ≡ message.spell it ++ more → length more < length bytes
shorter it bytes more same = rw same (omega (arith, length-append (message.spell it) more, message_some it))
