-- The laws of texts.
use Rattle.std.proofs.Common.{◌≡◌, ◌<◌, ℕ, length, length-append, List, [], ◌∷◌, ◌++◌, refl, sym, ap, subst, ◌∙◌, append_assoc, append-nil, arith, inl, inr}
use Rattle.std.proofs.lemmas.List.Concat.{flat_map-append, flat_map-cons}
use Rattle.base64.specs.Engines.{standard}
use Rattle.base64.specs.GeneralPurpose.{encode_of}
use Rattle.zcodec.proofs.Whole.{one_spelling}
use Rattle.zjournal.specs.Blocks.{IsText}
use Rattle.zwire.specs.declared.records.record.Record.{Record}
use Rattle.zwire.specs.records.Records.{logged, Fits, AllFit, line_of, text_of}
use Rattle.zwire.specs.records.Laws.{TextsAreDistinct, TextsJoin, OneRecordInFront, EndsLine, AreLines}
use Rattle.zwire.proofs.records_lemmas.Records.{is_logged}
use Rattle.zwire.proofs.records_lemmas.Lines.{AreHigh, HasNoEnd, high_no_end, one_end, encoded_high, one_encoding}

-- the bytes of a line, without its LF
abbrev pub letters : Record → List ℕ
letters r = encode_of standard (logged.spell r)

pub line-split : (r : Record) (rest : List ℕ) → line_of r ++ rest ≡ letters r ++ 10 ∷ rest
unfolding line_of
line-split r rest = append_assoc (letters r) (10 ∷ []) rest

pub letters_end : (r : Record) → Fits r → HasNoEnd (letters r)
letters_end r fits = high_no_end (letters r) (encoded_high (logged.spell r) fits.1)

-- ---- one text is of one list

pub one_record : OneRecordInFront
one_record a b x y fits also same =
    let lines = one_end (letters a) (letters b) x y (letters_end a fits) (letters_end b also) (sym (line-split a x) ∙ same ∙ line-split b y) in
    let bytes = one_encoding (logged.spell a) (logged.spell b) fits.1 also.1 lines.0 in
    (one_spelling logged is_logged a b fits.0 also.0 bytes, lines.1)

-- a line isn't empty
pub line_some : (r : Record) (rest : List ℕ) → line_of r ++ rest ≡ [] → ⊥
line_some r rest none = by (letters r) (sym (line-split r rest) ∙ none)
  where
    by : (front : List ℕ) → front ++ 10 ∷ rest ≡ [] → ⊥
    by [] none = cc
    by (b ∷ front) none = cc

-- what follows a line is shorter
pub shorter : (r : Record) (text rest : List ℕ) → text ≡ line_of r ++ rest → length rest < length text
unfolding line_of
shorter r text rest same = rw same (omega (arith, length-append (letters r ++ 10 ∷ []) rest, length-append (letters r) (10 ∷ [])))

text-cons : (r : Record) (rs : List Record) → text_of (r ∷ rs) ≡ line_of r ++ text_of rs
text-cons r rs = flat_map-cons line_of r rs

pub texts_apart : TextsAreDistinct
texts_apart [] [] fit also same = refl
texts_apart [] (b ∷ bs) fit also same = absurd (line_some b (text_of bs) (sym (same ∙ text-cons b bs)))
texts_apart (a ∷ first) [] fit also same = absurd (line_some a (text_of first) (sym (text-cons a first) ∙ same))
texts_apart (a ∷ first) (b ∷ second) fit also same =
    let front = one_record a b (text_of first) (text_of second) fit.0 also.0 (sym (text-cons a first) ∙ same ∙ text-cons b second) in
    let rest = texts_apart first second fit.1 also.1 front.1 in
    let head = front.0 in
    cc

pub texts_join : TextsJoin
texts_join a b = flat_map-append line_of a b

-- one more record
pub text_more : (rs : List Record) (r : Record) → text_of (rs ++ r ∷ []) ≡ text_of rs ++ line_of r
text_more rs r = texts_join rs (r ∷ []) ∙ ap (λ (t : List ℕ). text_of rs ++ t) (text-cons r [] ∙ append-nil (line_of r))

pub fit_more : (rs : List Record) (r : Record) → AllFit rs → Fits r → AllFit (rs ++ r ∷ [])
fit_more [] r fit fits = (fits, tt)
fit_more (x ∷ rs) r fit fits = (fit.0, fit_more rs r fit.1 fits)

-- ---- lines

high_text : (bytes : List ℕ) → AreHigh bytes → IsText bytes
high_text [] are = tt
high_text (b ∷ bytes) are = (λ same. omega (arith, are.0, same), high_text bytes are.1)

text-append : (a b : List ℕ) → IsText a → IsText b → IsText (a ++ b)
text-append [] b first second = second
text-append (x ∷ a) b first second = (first.0, text-append a b first.1 second)

line_text : (r : Record) → Fits r → IsText (line_of r)
unfolding line_of
line_text r fits = text-append (letters r) (10 ∷ []) (high_text (letters r) (encoded_high (logged.spell r) fits.1)) (λ same. omega (arith, same), tt)

pub is_text : (rs : List Record) → AllFit rs → IsText (text_of rs)
is_text [] fit = tt
is_text (r ∷ rs) fit = subst IsText (sym (text-cons r rs)) (text-append (line_of r) (text_of rs) (line_text r fit.0) (is_text rs fit.1))

ends_line : (r : Record) (text : List ℕ) → EndsLine text → EndsLine (line_of r ++ text)
unfolding line_of
ends_line r text (inl none) = inr (letters r, ap (λ (t : List ℕ). line_of r ++ t) none ∙ append-nil (line_of r))
ends_line r text (inr some) = inr (line_of r ++ some.0, ap (λ (t : List ℕ). line_of r ++ t) some.1 ∙ sym (append_assoc (line_of r) some.0 (10 ∷ [])))

text_ends : (rs : List Record) → EndsLine (text_of rs)
text_ends [] = inl refl
text_ends (r ∷ rs) = subst EndsLine (sym (text-cons r rs)) (ends_line r (text_of rs) (text_ends rs))

pub are_lines : AreLines
are_lines rs fit = (is_text rs fit, text_ends rs)
