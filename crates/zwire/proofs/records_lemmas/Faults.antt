-- Where no record's line begins a text, and which line is the first that is no record's.
use Rattle.std.proofs.Common.{◌≡◌, ◌≢◌, ℕ, List, [], ◌∷◌, ◌++◌, Result, Ok, Err, refl, sym, ap, subst, ◌∙◌, append_assoc}
use Rattle.base64.specs.Engines.{standard}
use Rattle.base64.specs.GeneralPurpose.{encode_of, decode_of}
use Rattle.base64.specs.declared.decode.DecodeError.{DecodeError}
use Rattle.std.specs.Prelude.{IfOk, IfErr}
use Rattle.std.proofs.lemmas.List.Concat.{flat_map-cons}
use Rattle.zcodec.specs.declared.fault.Fault.{Fault}
use Rattle.zcodec.specs.Laws.{IsBytes}
use Rattle.zcodec.specs.Readers.{whole}
use Rattle.zcodec.proofs.Whole.{whole_takes, whole_again}
use Rattle.zwire.specs.declared.records.fault.RecordFault.{RecordFault}
use Rattle.zwire.specs.declared.records.fault.RecordFault.TheVariants.{Line, Memory}
use Rattle.zwire.specs.declared.records.record.Record.{Record}
use Rattle.zwire.specs.records.Records.{logged, Fits, AllFit, line_of, text_of, HasNoRecord, IsFaultOf}
use Rattle.zwire.proofs.records_lemmas.Records.{is_logged}
use Rattle.zwire.proofs.records_lemmas.Lines.{HasNoEnd, one_end, no_end_none, decoded}
use Rattle.zwire.proofs.records_lemmas.Texts.{line-split, letters_end, letters, one_record, line_some, texts_apart}

-- a text without an LF
pub none_without_end : (text : List ℕ) → HasNoEnd text → HasNoRecord text
none_without_end text none r rest fits same = no_end_none (letters r) rest (subst HasNoEnd (same ∙ line-split r rest) none)

-- the record at the front spells the first line
first_line : (text line more : List ℕ) → HasNoEnd line → text ≡ line ++ 10 ∷ more → (r : Record) (rest : List ℕ) → Fits r → text ≡ line_of r ++ rest → line ≡ letters r
first_line text line more none whole r rest fits same =
    (one_end line (letters r) more rest none (letters_end r fits) (sym whole ∙ same ∙ line-split r rest)).0

-- a line that isn't base64
pub none_undecoded : (text line more : List ℕ) (fault : DecodeError) → HasNoEnd line → text ≡ line ++ 10 ∷ more → decode_of standard line ≡ Err fault → HasNoRecord text
none_undecoded text line more fault none whole bad r rest fits same =
    apart (sym bad ∙ ap (decode_of standard) (first_line text line more none whole r rest fits same) ∙ decoded (logged.spell r) fits.1)
  where
    apart : ◌≡◌ {A = Result (List ℕ) DecodeError} (Err fault) (Ok (logged.spell r)) → ⊥
    apart same = cc

-- a line of other bytes
pub none_unread : (text line more bytes : List ℕ) (fault : Fault) → HasNoEnd line → text ≡ line ++ 10 ∷ more → decode_of standard line ≡ Ok bytes → whole logged bytes ≡ Err fault → HasNoRecord text
none_unread text line more bytes fault none split good bad r rest fits same =
    apart (sym bad ∙ ap (whole logged) (spelled (sym good ∙ ap (decode_of standard) (first_line text line more none split r rest fits same) ∙ decoded (logged.spell r) fits.1)) ∙ whole_again logged is_logged r fits.0)
  where
    spelled : ◌≡◌ {A = Result (List ℕ) DecodeError} (Ok bytes) (Ok (logged.spell r)) → bytes ≡ logged.spell r
    spelled same = cc

    apart : ◌≡◌ {A = Result Record Fault} (Err fault) (Ok r) → ⊥
    apart same = cc

-- what was read is in front
pub some_read : (text line more bytes : List ℕ) (r : Record) → text ≡ line ++ 10 ∷ more → line ≡ encode_of standard bytes → IsBytes bytes → whole logged bytes ≡ Ok r → Fits r × (text ≡ line_of r ++ more)
some_read text line more bytes r split coded are read =
    let t = whole_takes logged is_logged bytes r are read in (
      (t.1, subst IsBytes t.0 are),
      split ∙ ap (λ (l : List ℕ). l ++ 10 ∷ more) (coded ∙ ap (encode_of standard) t.0) ∙ sym (line-split r more),
    )

-- the text of records has no line that is none
pub no_bad_line : (before records : List Record) (left : List ℕ) → AllFit before → AllFit records → text_of records ≡ text_of before ++ left → left ≢ [] → HasNoRecord left → ⊥
no_bad_line [] [] left fit also same some none = some (sym same)
no_bad_line [] (r ∷ rs) left fit also same some none = none r (text_of rs) also.0 (sym same ∙ flat_map-cons line_of r rs)
no_bad_line (b ∷ bs) [] left fit also same some none =
    line_some b (text_of bs ++ left) (sym (append_assoc (line_of b) (text_of bs) left) ∙ ap (λ (t : List ℕ). t ++ left) (sym (flat_map-cons line_of b bs)) ∙ sym same)
no_bad_line (b ∷ bs) (r ∷ rs) left fit also same some none =
    let first = one_record r b (text_of rs) (text_of bs ++ left) also.0 fit.0
    (sym (flat_map-cons line_of r rs) ∙ same ∙ ap (λ (t : List ℕ). t ++ left) (flat_map-cons line_of b bs) ∙ append_assoc (line_of b) (text_of bs) left) in
    no_bad_line bs rs left fit.1 also.1 first.1 some none

-- so what is the text of some records is read as them, or memory ran out
only_memory : (text : List ℕ) (fault : RecordFault) (records : List Record) → AllFit records → text ≡ text_of records → IsFaultOf text fault → fault ≡ Memory
only_memory text Memory records fit same is = refl
only_memory text (Line n) records fit same bad = absurd (no_bad_line bad.before records bad.left bad.fit fit (sym same ∙ bad.split) bad.some bad.none)

pub read_alone : {V : Type 0} (items : V → List Record) (text : List ℕ) (result : Result V RecordFault)
    → IfOk result (λ v. AllFit (items v) × (text ≡ text_of (items v))) → IfErr result (IsFaultOf text)
    → (records : List Record) → AllFit records → text ≡ text_of records → IfOk result (λ v. items v ≡ records) × IfErr result (λ fault. fault ≡ Memory)
read_alone items text (Ok v) found fault records fit same = (texts_apart (items v) records found.0 fit (sym found.1 ∙ same), tt)
read_alone items text (Err e) found fault records fit same = (tt, only_memory text e records fit same fault)
