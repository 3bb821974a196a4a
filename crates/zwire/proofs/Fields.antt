-- The fields of messages are forms.
use Rattle.std.proofs.Common.{◌≡◌, ℕ, ◌^◌, ◌<◌, ◌≤◌, Bool, cond, ltb, List, ◌++◌, length, Ok, Err, refl, ap, subst, arith}
use Rattle.std.specs.Int.{Width, w8, w64, byte_len}
use Rattle.std.proofs.lemmas.Bool.{ltb-false, le-ltb}
use Rattle.zcodec.specs.declared.fault.Fault.TheVariants.{Invalid}
use Rattle.zcodec.specs.Forms.{Form, number, both, empty, times}
use Rattle.zcodec.specs.Laws.{IsForm}
use Rattle.zcodec.proofs.Bytes.{guard_ok, ok_is}
use Rattle.zcodec.proofs.Numbers.{is_u8, is_u64, is_empty}
use Rattle.zcodec.proofs.Parts.{is_both, is_made, is_record, is_tagged}
use Rattle.zcodec.proofs.Times.{is_times}
use Rattle.zjute.proofs.Before.{Anything, before, is_form}
use Rattle.zjute.proofs.Tags.{again_as, is_by_tag}
use Rattle.zcalls.specs.declared.limits.TheConstants.{MAX_CALL_NUMBER}
use Rattle.zcalls.specs.declared.refusal.Refusal.{Refusal}
use Rattle.zcalls.specs.declared.refusal.Refusal.TheVariants.{NoNode, NodeExists, NotEmpty, BadVersion}
use Rattle.zcalls.specs.declared.refusal.Refusal.TheVariants.{NoChildrenForEphemerals, SessionGone, SequenceFull}
use Rattle.zcalls.specs.declared.refusal.Refusal.TheVariants.{PathLimit, RootFixed, Full, TooManySessions, Exhausted}
use Rattle.zprotocol.specs.declared.limits.TheConstants.{MAX_LOG_NUMBER, MAX_EPOCH}
use Rattle.zprotocol.specs.declared.process.Process.{Process}
use Rattle.zprotocol.specs.declared.process.Process.TheVariants.{Master, Server, Client}
use Rattle.zwire.specs.records.Fields.{long}
use Rattle.zwire.specs.records.Records.{server}
use Rattle.zwire.proofs.records_lemmas.Sums.{none_take, one_takes}
use Rattle.zwire.proofs.records_lemmas.Records.{is_server}
use Rattle.zwire.specs.Fields.{within_from, within, call_number, log_number, epoch, client, process_at, process_spelled}
use Rattle.zwire.specs.Fields.{process, three, zxids_of, four, five, counts_of, sizes_of, stat_of, stat, refusal_at}
use Rattle.zwire.specs.Fields.{refusal_spelled, refusal, counted}

-- ---- numbers

pub is_within : (w : Width) (most : ℕ) → IsForm (number w) → most < 256 ^ byte_len w → IsForm (within w most)
is_within w most is room = is_made (number w) (λ n. n) (within_from most) (λ n. n ≤ most) is
    (λ n k fits e.
    let g = guard_ok (ltb most n) Invalid (Ok n) k e in
    subst (λ (x : ℕ). (x ≡ n) × (x ≤ most)) (ok_is n k g.1) (refl, ltb-false most n g.0))
    (λ n few. (ap (λ (b : Bool). cond b (Err Invalid) (Ok n)) (le-ltb most n few), omega (arith, few, room)))

pub is_call_number : IsForm call_number
unfolding call_number
is_call_number = is_within w64 MAX_CALL_NUMBER is_u64 (omega arith)

pub is_log_number : IsForm log_number
unfolding log_number
is_log_number = is_within w64 MAX_LOG_NUMBER is_u64 (omega arith)

pub is_epoch : IsForm epoch
unfolding epoch
is_epoch = is_within w64 MAX_EPOCH is_u64 (omega arith)

pub is_client : IsForm client
unfolding client
is_client = is_within w8 31 is_u8 (omega arith)

-- ---- processes

process_again : (p : Process) (rest : List ℕ) → Anything rest → (process_spelled p).fits
    → process_at (process_spelled p).tag ((process_spelled p).text ++ rest) ≡ Ok (p, rest)
unfolding process_at
process_again Master rest any fits = refl
process_again (Server id) rest any fits = again_as Anything server (λ id. Server id) (before Anything server is_server) id rest any fits
process_again (Client id) rest any fits = again_as Anything client (λ id. Client id) (before Anything client is_client) id rest any fits

pub is_process : IsForm process
unfolding process process_at
is_process = is_form process (is_by_tag Anything (number w8) process_at process_spelled is_u8
    (one_takes process_spelled 0 empty (λ _. Master) _ is_empty (λ x. refl) (λ x. refl) (λ x fits. fits)
    (one_takes process_spelled 1 server (λ id. Server id) _ is_server (λ x. refl) (λ x. refl) (λ x fits. fits)
    (one_takes process_spelled 2 client (λ id. Client id) _ is_client (λ x. refl) (λ x. refl) (λ x fits. fits)
    (none_take process_spelled))))
    process_again)

-- ---- stats

pub is_three : IsForm three
is_three = is_both long (both long long) is_u64 (is_both long long is_u64 is_u64)

pub is_four : IsForm four
is_four = is_both long three is_u64 is_three

pub is_five : IsForm five
is_five = is_both long four is_u64 is_four

pub is_stat : IsForm stat
unfolding stat
is_stat =
    is_record (both three (both five three)) (λ s. (zxids_of s, (counts_of s, sizes_of s))) stat_of
    (is_both three (both five three) is_three (is_both five three is_five is_three)) (λ f. refl) (λ s. refl)

-- ---- refusals

refusal_again : (r : Refusal) (rest : List ℕ) → Anything rest → (refusal_spelled r).fits
    → refusal_at (refusal_spelled r).tag ((refusal_spelled r).text ++ rest) ≡ Ok (r, rest)
unfolding refusal_at
refusal_again NoNode rest any fits = refl
refusal_again NodeExists rest any fits = refl
refusal_again NotEmpty rest any fits = refl
refusal_again BadVersion rest any fits = refl
refusal_again NoChildrenForEphemerals rest any fits = refl
refusal_again SessionGone rest any fits = refl
refusal_again SequenceFull rest any fits = refl
refusal_again PathLimit rest any fits = refl
refusal_again RootFixed rest any fits = refl
refusal_again Full rest any fits = refl
refusal_again TooManySessions rest any fits = refl
refusal_again Exhausted rest any fits = refl

pub is_refusal : IsForm refusal
unfolding refusal refusal_at
is_refusal = is_form refusal (is_by_tag Anything (number w8) refusal_at refusal_spelled is_u8
    (one_takes refusal_spelled 0 empty (λ _. NoNode) _ is_empty (λ x. refl) (λ x. refl) (λ x fits. fits)
    (one_takes refusal_spelled 1 empty (λ _. NodeExists) _ is_empty (λ x. refl) (λ x. refl) (λ x fits. fits)
    (one_takes refusal_spelled 2 empty (λ _. NotEmpty) _ is_empty (λ x. refl) (λ x. refl) (λ x fits. fits)
    (one_takes refusal_spelled 3 empty (λ _. BadVersion) _ is_empty (λ x. refl) (λ x. refl) (λ x fits. fits)
    (one_takes refusal_spelled 4 empty (λ _. NoChildrenForEphemerals) _ is_empty (λ x. refl) (λ x. refl) (λ x fits. fits)
    (one_takes refusal_spelled 5 empty (λ _. SessionGone) _ is_empty (λ x. refl) (λ x. refl) (λ x fits. fits)
    (one_takes refusal_spelled 6 empty (λ _. SequenceFull) _ is_empty (λ x. refl) (λ x. refl) (λ x fits. fits)
    (one_takes refusal_spelled 7 empty (λ _. PathLimit) _ is_empty (λ x. refl) (λ x. refl) (λ x fits. fits)
    (one_takes refusal_spelled 8 empty (λ _. RootFixed) _ is_empty (λ x. refl) (λ x. refl) (λ x fits. fits)
    (one_takes refusal_spelled 9 empty (λ _. Full) _ is_empty (λ x. refl) (λ x. refl) (λ x fits. fits)
    (one_takes refusal_spelled 10 empty (λ _. TooManySessions) _ is_empty (λ x. refl) (λ x. refl) (λ x fits. fits)
    (one_takes refusal_spelled 11 empty (λ _. Exhausted) _ is_empty (λ x. refl) (λ x. refl) (λ x fits. fits)
    (none_take refusal_spelled)))))))))))))
    refusal_again)

-- ---- lists

pub is_counted : {A : Type 0} (c : Form A) → IsForm c → IsForm (counted c)
is_counted c is = is_tagged long length (times c) is_u64 (λ n fits. is_times c is n) (λ n xs fits fit. fit.0)
