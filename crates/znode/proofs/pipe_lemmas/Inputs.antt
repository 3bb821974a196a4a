-- Inputs are a form.
use Rattle.std.proofs.Common.{◌≡◌, ◌<◌, ℕ, List, length, length-append, ◌++◌, Ok, refl, arith}
use Rattle.std.specs.Int.{w8, w64}
use Rattle.zcodec.specs.Forms.{number, empty, both}
use Rattle.zcodec.specs.Choices.{sized}
use Rattle.zcodec.specs.Laws.{IsForm}
use Rattle.zcodec.proofs.Numbers.{is_u8, is_u64, is_empty}
use Rattle.zcodec.proofs.Parts.{is_both, is_record}
use Rattle.zcodec.proofs.Choices.{is_sized}
use Rattle.zjute.proofs.Before.{Anything, before, is_form}
use Rattle.zjute.proofs.Tags.{again_as, is_by_tag}
use Rattle.zwire.specs.declared.limits.TheConstants.{MAX_FRAME}
use Rattle.zwire.specs.records.Records.{server}
use Rattle.zwire.specs.Fields.{process}
use Rattle.zwire.proofs.Fields.{is_process, is_within}
use Rattle.zwire.proofs.records_lemmas.Records.{is_server}
use Rattle.zwire.proofs.records_lemmas.Sums.{none_take, one_takes}
use Rattle.zmaster_log.specs.declared.limits.TheConstants.{MAX_ENTRIES}
use Rattle.zmaster_log.specs.Bytes.{count}
use Rattle.zpeers.specs.Records.{link_record}
use Rattle.znode.specs.declared.limits.TheConstants.{MAX_ENTRY}
use Rattle.znode.specs.pipe.Inputs.{InputView, Entry, CaughtUp, Link, Lost, Turn, Ended, listed, came, input_at, input_spelled, input}

is_count : IsForm count
unfolding count
is_count = is_within w64 MAX_ENTRIES is_u64 (omega arith)

pub is_listed : IsForm listed
unfolding listed
is_listed = is_both count (sized MAX_ENTRY) is_count (is_sized MAX_ENTRY (omega arith))

pub is_link_record : IsForm link_record
is_link_record = is_record (both (number w8) (sized MAX_FRAME)) (λ r. (r.tag, r.bytes)) (λ p. record { tag = p.0; bytes = p.1 })
    (is_both (number w8) (sized MAX_FRAME) is_u8 (is_sized MAX_FRAME (omega arith)))
    (λ p. refl) (λ r. refl)

pub is_came : IsForm came
unfolding came
is_came = is_both process link_record is_process is_link_record

input_again : (it : InputView) (rest : List ℕ) → Anything rest → (input_spelled it).fits
    → input_at (input_spelled it).tag ((input_spelled it).text ++ rest) ≡ Ok (it, rest)
unfolding input_at
input_again (Entry index bytes) rest any fits = again_as Anything listed (λ x. Entry x.0 x.1)
    (before Anything listed is_listed) (index, bytes) rest any fits
input_again CaughtUp rest any fits = again_as Anything empty (λ _. CaughtUp) (before Anything empty is_empty) tt rest any fits
input_again (Link from r) rest any fits = again_as Anything came (λ x. Link x.0 x.1)
    (before Anything came is_came) (from, r) rest any fits
input_again (Lost s) rest any fits = again_as Anything server (λ s. Lost s) (before Anything server is_server) s rest any fits
input_again Turn rest any fits = again_as Anything empty (λ _. Turn) (before Anything empty is_empty) tt rest any fits
input_again (Ended from) rest any fits = again_as Anything process (λ p. Ended p)
    (before Anything process is_process) from rest any fits

pub is_input : IsForm input
unfolding input input_at
is_input = is_form input (is_by_tag Anything (number w8) input_at input_spelled is_u8
    (one_takes input_spelled 0 listed (λ x. Entry x.0 x.1) _ is_listed (λ x. refl) (λ x. refl) (λ x fits. fits)
    (one_takes input_spelled 1 empty (λ _. CaughtUp) _ is_empty (λ x. refl) (λ x. refl) (λ x fits. fits)
    (one_takes input_spelled 2 came (λ x. Link x.0 x.1) _ is_came (λ x. refl) (λ x. refl) (λ x fits. fits)
    (one_takes input_spelled 3 server (λ s. Lost s) _ is_server (λ x. refl) (λ x. refl) (λ x fits. fits)
    (one_takes input_spelled 4 empty (λ _. Turn) _ is_empty (λ x. refl) (λ x. refl) (λ x fits. fits)
    (one_takes input_spelled 5 process (λ p. Ended p) _ is_process (λ x. refl) (λ x. refl) (λ x fits. fits)
    (none_take input_spelled)))))))
    input_again)

-- each has a byte: its tag
pub input_some : (it : InputView) → 0 < length (input.spell it)
unfolding input
input_some it = omega (arith, length-append ((number w8).spell (input_spelled it).tag) (input_spelled it).text)

-- what follows an input is shorter
pub shorter : (it : InputView) (bytes more : List ℕ) → bytes ≡ input.spell it ++ more → length more < length bytes
shorter it bytes more same = rw same (omega (arith, length-append (input.spell it) more, input_some it))
