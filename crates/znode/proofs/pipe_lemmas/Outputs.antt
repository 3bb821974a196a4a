-- Outputs are a form.
use Rattle.std.proofs.Common.{◌≡◌, ◌<◌, ℕ, List, length, length-append, ◌++◌, Ok, refl, arith}
use Rattle.std.specs.Int.{w8}
use Rattle.zcodec.specs.Forms.{number}
use Rattle.zcodec.specs.Choices.{flag}
use Rattle.zcodec.specs.Laws.{IsForm}
use Rattle.zcodec.proofs.Numbers.{is_u8}
use Rattle.zcodec.proofs.Parts.{is_both}
use Rattle.zcodec.proofs.Choices.{is_flag}
use Rattle.zjute.proofs.Before.{Anything, before, is_form}
use Rattle.zjute.proofs.Tags.{again_as, is_by_tag}
use Rattle.zwire.specs.Fields.{process}
use Rattle.zwire.proofs.Fields.{is_process}
use Rattle.zwire.proofs.records_lemmas.Sums.{none_take, one_takes}
use Rattle.zpeers.specs.Records.{link_record}
use Rattle.znode.specs.pipe.Inputs.{listed}
use Rattle.znode.specs.pipe.Outputs.{OutputView, Send, Append, Status, End, sent, stated, output_at, output_spelled, output}
use Rattle.znode.proofs.pipe_lemmas.Inputs.{is_link_record, is_listed}

is_sent : IsForm sent
unfolding sent
is_sent = is_both process link_record is_process is_link_record

is_stated : IsForm stated
unfolding stated
is_stated = is_both (number w8) (number w8) is_u8 is_u8

output_again : (it : OutputView) (rest : List ℕ) → Anything rest → (output_spelled it).fits
    → output_at (output_spelled it).tag ((output_spelled it).text ++ rest) ≡ Ok (it, rest)
unfolding output_at
output_again (Send to r) rest any fits = again_as Anything sent (λ x. Send x.0 x.1) (before Anything sent is_sent) (to, r) rest any fits
output_again (Append index bytes) rest any fits = again_as Anything listed (λ x. Append x.0 x.1)
    (before Anything listed is_listed) (index, bytes) rest any fits
output_again (Status own flags) rest any fits = again_as Anything stated (λ x. Status x.0 x.1)
    (before Anything stated is_stated) (own, flags) rest any fits
output_again (End more) rest any fits = again_as Anything flag (λ m. End m) (before Anything flag is_flag) more rest any fits

pub is_output : IsForm output
unfolding output output_at
is_output = is_form output (is_by_tag Anything (number w8) output_at output_spelled is_u8
    (one_takes output_spelled 0 sent (λ x. Send x.0 x.1) _ is_sent (λ x. refl) (λ x. refl) (λ x fits. fits)
    (one_takes output_spelled 1 listed (λ x. Append x.0 x.1) _ is_listed (λ x. refl) (λ x. refl) (λ x fits. fits)
    (one_takes output_spelled 2 stated (λ x. Status x.0 x.1) _ is_stated (λ x. refl) (λ x. refl) (λ x fits. fits)
    (one_takes output_spelled 3 flag (λ m. End m) _ is_flag (λ x. refl) (λ x. refl) (λ x fits. fits)
    (none_take output_spelled)))))
    output_again)

-- each has a byte: its tag
pub output_some : (it : OutputView) → 0 < length (output.spell it)
unfolding output
output_some it = omega (arith, length-append ((number w8).spell (output_spelled it).tag) (output_spelled it).text)
