-- Entries by which a node gets its number.
use Rattle.std.proofs.Common.{◌≡◌, ℕ, ◌<◌, ◌^◌, List, [], ◌∷◌, ◌++◌, Result, Ok, Err, sym, ap, subst, ◌∙◌, lit<}
use Rattle.std.specs.Int.{w8, byte_len, to_be_bytes}
use Rattle.zcodec.specs.declared.fault.Fault.{Fault}
use Rattle.zcodec.specs.Forms.{◌>>=◌}
use Rattle.zcodec.specs.Readers.{ended, whole}
use Rattle.zcodec.proofs.Numbers.{is_u8}
use Rattle.zmaster_log.specs.declared.entry.LogEntry.{LogEntry}
use Rattle.zmaster_log.specs.declared.entry.LogEntry.TheVariants as log
use Rattle.zmaster_log.specs.Bytes.{entry, entry_at, joined, nodes}

abbrev pub IsFirst : LogEntry → Type 0
IsFirst (log.Opening names) = Unit {0}
IsFirst (log.Join s name) = Unit {0}
IsFirst (log.Retire s) = ⊥
IsFirst (log.Reported r) = ⊥

-- what was read, as an entry with what follows
abbrev made : {A : Type 0} → Result (A × List ℕ) Fault → (A → LogEntry) → Result (LogEntry × List ℕ) Fault
made result make = result >>= λ x. Ok (make x.0, x.1)

-- what is read behind a tag is of its kind
made_first : {A : Type 0} (result : Result (A × List ℕ) Fault) (make : A → LogEntry) (it : LogEntry) → ((x : A) → IsFirst (make x))
    → (made result make >>= λ x. ended x.0 x.1) ≡ Ok it → IsFirst it
made_first (Err fault) make it is read = absurd (let no_way : Err fault ≡ Ok it = read in cc)
made_first (Ok (x, [])) make it is read = let same : make x ≡ it = cc in subst IsFirst same (is x)
made_first (Ok (x, byte ∷ bytes)) make it is read = absurd cc

behind_tag : (tag : ℕ) (text : List ℕ) → tag < 256 ^ byte_len w8
    → whole entry (to_be_bytes w8 tag ++ text) ≡ (entry_at tag text >>= λ x. ended x.0 x.1)
unfolding entry
behind_tag tag text small =
    ap (λ (r : Result (ℕ × List ℕ) Fault). (r >>= λ t. entry_at t.0 t.1) >>= (λ x. ended x.0 x.1)) (is_u8.again tag text small)

-- what is read of the bytes of one is one
pub first_stays : (e it : LogEntry) → IsFirst e → whole entry (entry.spell e) ≡ Ok it → IsFirst it
unfolding entry entry_at
first_stays (log.Opening names) it is read =
    made_first (nodes.read (nodes.spell names)) (λ names. log.Opening names) it (λ x. tt)
    (sym (behind_tag 0 (nodes.spell names) (lit< tt)) ∙ read)
first_stays (log.Join s name) it is read =
    made_first (joined.read (joined.spell (s, name))) (λ j. log.Join j.0 j.1) it (λ x. tt)
    (sym (behind_tag 1 (joined.spell (s, name)) (lit< tt)) ∙ read)
first_stays (log.Retire s) it is read = absurd is
first_stays (log.Reported r) it is read = absurd is
