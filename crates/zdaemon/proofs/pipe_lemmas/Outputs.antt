-- Answers are a form.
use Rattle.std.proofs.Common.{◌≡◌, ◌<◌, ℕ, List, length, length-append, ◌++◌, Ok, refl, arith}
use Rattle.std.specs.Int.{w8, w32}
use Rattle.zcodec.specs.Forms.{number, empty, both}
use Rattle.zcodec.specs.Choices.{flag, sized}
use Rattle.zcodec.specs.Laws.{IsForm}
use Rattle.zcodec.proofs.Numbers.{is_u8, is_u32, is_empty}
use Rattle.zcodec.proofs.Parts.{is_both, is_record}
use Rattle.zcodec.proofs.Choices.{is_flag, is_sized}
use Rattle.zjute.proofs.Before.{Anything, before, is_form}
use Rattle.zjute.proofs.Tags.{again_as, is_by_tag}
use Rattle.zwire.proofs.records_lemmas.Sums.{none_take, one_takes}
use Rattle.zdaemon.specs.declared.pipe.limits.TheConstants.{MAX_PIECE}
use Rattle.zdaemon.specs.pipe.Outputs.{OutputView, Chunk, End, chunk, output_at, output_spelled, output}

pub is_chunk : IsForm chunk
unfolding chunk
is_chunk = is_record (both (number w32) (both flag (sized MAX_PIECE)))
    (λ p. (p.connection, (p.is_last, p.bytes)))
    (λ x. record { connection = x.0; is_last = x.1.0; bytes = x.1.1 })
    (is_both (number w32) (both flag (sized MAX_PIECE)) is_u32 (is_both flag (sized MAX_PIECE) is_flag (is_sized MAX_PIECE (omega arith))))
    (λ x. refl) (λ p. refl)

output_again : (it : OutputView) (rest : List ℕ) → Anything rest → (output_spelled it).fits
    → output_at (output_spelled it).tag ((output_spelled it).text ++ rest) ≡ Ok (it, rest)
unfolding output_at
output_again (Chunk p) rest any fits = again_as Anything chunk (λ p. Chunk p) (before Anything chunk is_chunk) p rest any fits
output_again End rest any fits = again_as Anything empty (λ _. End) (before Anything empty is_empty) tt rest any fits

pub is_output : IsForm output
unfolding output output_at
is_output = is_form output (is_by_tag Anything (number w8) output_at output_spelled is_u8
    (one_takes output_spelled 0 chunk (λ p. Chunk p) _ is_chunk (λ x. refl) (λ x. refl) (λ x fits. fits)
    (one_takes output_spelled 1 empty (λ _. End) _ is_empty (λ x. refl) (λ x. refl) (λ x fits. fits)
    (none_take output_spelled)))
    output_again)

-- each has a byte: its tag
pub output_some : (it : OutputView) → 0 < length (output.spell it)
unfolding output
output_some it = omega (arith, length-append ((number w8).spell (output_spelled it).tag) (output_spelled it).text)
