-- Lines: their bytes are symbols of base64, and so are neither a 0 nor an LF.
use Rattle.std.proofs.Common.{◌≡◌, ◌≢◌, ℕ, zero, suc, ◌+◌, ◌*◌, ◌/◌, ◌%◌, ◌<◌, ◌≤◌, true, List, [], ◌∷◌, ◌++◌, length, slice_index, take, drop, Result, Ok, refl, sym, ap, ◌∙◌, add-one, ◌==◌, ◌-◌, arith}
use Rattle.std.specs.List.{AllByRecursion}
use Rattle.std.specs.Prelude.{replicate}
use Rattle.std.proofs.lemmas.Bool.{eq-eqb, eqb-true}
use Rattle.std.proofs.lemmas.List.{take_all, length-drop}
use Rattle.base64.specs.Engines.{standard}
use Rattle.base64.specs.declared.decode.DecodeError.{DecodeError}
use Rattle.base64.specs.GeneralPurpose.{encode_of, decode_of}
use Rattle.base64.specs.Rfc4648.{encode_symbols, padding_len}
use Rattle.base64.specs.declared.engine.general_purpose.GeneralPurpose.{GeneralPurpose}
use Rattle.base64.proofs.Tables.{are_tables_alphabet, is_alphabet_symbol}
use Rattle.base64.proofs.EngineFacts.{decode_of-encode_of}
use Rattle.zcodec.specs.Laws.{IsBytes}

-- bytes from 32 on
abbrev pub IsHigh : ℕ → Type 0
IsHigh b = 32 ≤ b

abbrev pub AreHigh : List ℕ → Type 0
AreHigh = AllByRecursion IsHigh

pub high-append : (a b : List ℕ) → AreHigh a → AreHigh b → AreHigh (a ++ b)
high-append [] b first second = second
high-append (x ∷ a) b first second = (first.0, high-append a b first.1 second)

-- a symbol of an alphabet is
symbol_high : (e : GeneralPurpose) (i : ℕ) → i < 64 → IsHigh (slice_index e.encode_table i)
symbol_high e i below =
    (is_alphabet_symbol e.encode_table e.padding.value i (are_tables_alphabet e.encode_table e.decode_table e.padding.value e.tables) below).0

symbols_high : (e : GeneralPurpose) (bytes : List ℕ) → IsBytes bytes → AreHigh (encode_symbols e.encode_table bytes)
unfolding encode_symbols
symbols_high e [] are = tt
symbols_high e (a ∷ []) are =
    let la = are 0 in
    (symbol_high e (a / 4) (omega arith), (symbol_high e (a % 4 * 16) (omega arith), tt))
symbols_high e (a ∷ b ∷ []) are =
    let la = are 0 in
    let lb = are 1 in
    (symbol_high e (a / 4) (omega arith), (symbol_high e (a % 4 * 16 + b / 16) (omega arith), (symbol_high e (b % 16 * 4) (omega arith), tt)))
symbols_high e (a ∷ b ∷ c ∷ rest) are =
    let la = are 0 in
    let lb = are 1 in
    let lc = are 2 in (
      symbol_high e (a / 4) (omega arith),
      (
        symbol_high e (a % 4 * 16 + b / 16) (omega arith),
        (symbol_high e (b % 16 * 4 + c / 64) (omega arith), (symbol_high e (c % 64) (omega arith), symbols_high e rest (λ i. are (suc (suc (suc i)))))),
      ),
    )

padding_high : (e : GeneralPurpose) (n : ℕ) → AreHigh (replicate n e.padding.value)
padding_high e zero = tt
padding_high e (suc n) = (let printable = e.padding.printable in omega arith, padding_high e n)

pub encoded_high : (bytes : List ℕ) → IsBytes bytes → AreHigh (encode_of standard bytes)
encoded_high bytes are =
    high-append (encode_symbols standard.encode_table bytes) (replicate (padding_len (length bytes)) standard.padding.value)
    (symbols_high standard bytes are) (padding_high standard (padding_len (length bytes)))

pub decoded : (bytes : List ℕ) → IsBytes bytes → decode_of standard (encode_of standard bytes) ≡ Ok bytes
decoded bytes are = decode_of-encode_of standard bytes refl are

-- no two lists of bytes share their text
pub one_encoding : (a b : List ℕ) → IsBytes a → IsBytes b → encode_of standard a ≡ encode_of standard b → a ≡ b
one_encoding a b are also same = by (sym (decoded a are) ∙ ap (decode_of standard) same ∙ decoded b also)
  where
    by : ◌≡◌ {A = Result (List ℕ) DecodeError} (Ok a) (Ok b) → a ≡ b
    by same = cc

-- ---- the first LF

-- no byte is an LF
abbrev pub HasNoEnd : List ℕ → Type 0
HasNoEnd = AllByRecursion (λ b. b ≢ 10)

pub high_no_end : (line : List ℕ) → AreHigh line → HasNoEnd line
high_no_end [] are = tt
high_no_end (b ∷ line) are = (λ same. omega (arith, are.0, same), high_no_end line are.1)

-- a text has one first line
pub one_end : (a b x y : List ℕ) → HasNoEnd a → HasNoEnd b → a ++ 10 ∷ x ≡ b ++ 10 ∷ y → (a ≡ b) × (x ≡ y)
one_end [] [] x y first second same = (refl, cc)
one_end [] (b ∷ back) x y first second same = absurd (second.0 (cc))
one_end (a ∷ front) [] x y first second same = absurd (first.0 (cc))
one_end (a ∷ front) (b ∷ back) x y first second same =
    let head : a ≡ b = cc in
    let rest : front ++ 10 ∷ x ≡ back ++ 10 ∷ y = cc in
    let t = one_end front back x y first.1 second.1 rest in
    (let tail = t.0 in cc, t.1)

-- a text with an LF has one
pub no_end_none : (a x : List ℕ) → HasNoEnd (a ++ 10 ∷ x) → ⊥
no_end_none [] x none = none.0 refl
no_end_none (b ∷ a) x none = no_end_none a x none.1

-- no byte before this position is an LF
abbrev pub NoEndBelow : List ℕ → ℕ → Type 0
NoEndBelow bytes k = (j : ℕ) → j < k → ¬ ((slice_index bytes j == 10) ≡ true)

pub no_end : (bytes : List ℕ) → NoEndBelow bytes (length bytes) → HasNoEnd bytes
no_end [] none = tt
no_end (b ∷ bytes) none = (λ same. none 0 (omega arith) (eq-eqb b 10 same), no_end bytes (λ j below. none (suc j) (omega arith)))

-- the first LF of a text ends its first line
pub record Split (bytes : List ℕ) (k : ℕ) (more : List ℕ) : Type 0 where
  pub line : HasNoEnd (take k bytes)
  pub whole : bytes ≡ take k bytes ++ 10 ∷ more

split_at_first : (bytes : List ℕ) (k : ℕ) → NoEndBelow bytes k → k < length bytes → (slice_index bytes k == 10) ≡ true → Split bytes k (drop (suc k) bytes)
split_at_first [] k none below here = absurd (omega arith)
split_at_first (b ∷ bytes) zero none below here = record { line = tt; whole = ap (λ (x : ℕ). x ∷ bytes) (eqb-true b 10 here) }
split_at_first (b ∷ bytes) (suc k) none below here =
    let later = split_at_first bytes k (λ j lt. none (suc j) (omega arith)) (omega arith) here in
    record { line = (λ same. none 0 (omega arith) (eq-eqb b 10 same), later.line); whole = ap (λ (t : List ℕ). b ∷ t) later.whole }

rest_of-drop : (bytes : List ℕ) (k : ℕ) → take (length bytes - (k + 1)) (drop (k + 1) bytes) ≡ drop (suc k) bytes
rest_of-drop bytes k = take_all _ _ (omega (arith, length-drop (k + 1) bytes)) ∙ ap (λ (n : ℕ). drop n bytes) (add-one k)

pub cut_at_first : (bytes : List ℕ) (k : ℕ) → NoEndBelow bytes k → k < length bytes → (slice_index bytes k == 10) ≡ true
    → Split bytes k (take (length bytes - (k + 1)) (drop (k + 1) bytes))
cut_at_first bytes k none below here =
    let split = split_at_first bytes k none below here in
    record { line = split.line; whole = split.whole ∙ ap (λ (t : List ℕ). take k bytes ++ 10 ∷ t) (sym (rest_of-drop bytes k)) }
