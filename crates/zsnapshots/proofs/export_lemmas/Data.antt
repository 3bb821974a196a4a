-- The text of data is a word, and is read as the data.
use Rattle.std.proofs.Common.{◌≡◌, ℕ, zero, suc, ◌<◌, ◌≤◌, ◌+◌, ◌*◌, ◌/◌, ◌%◌, ◌-◌, Bool, true, false, not, ◌&&◌, ◌||◌}
use Rattle.std.proofs.Common.{cond, List, [], ◌∷◌, ◌++◌, length, length-append, codes, slice_index, replicate, Some, Ok}
use Rattle.std.proofs.Common.{refl, sym, ap, ◌∙◌, arith}
use Rattle.std.specs.Prelude.{nat_eq, nat_le, nat_lt}
use Rattle.std.specs.List.{AllByRecursion}
use Rattle.std.specs.Str.{bytes_eq}
use Rattle.std.proofs.lemmas.Bool.{leb-true}
use Rattle.std.proofs.lemmas.Bool.Decides.{nat_tests}
use Rattle.base64.specs.Engines.{standard}
use Rattle.base64.specs.GeneralPurpose.{decode_of, encode_of, IsBytes}
use Rattle.base64.specs.Rfc4648.{encode_symbols, padding_len, unpadded_len}
use Rattle.base64.specs.Tables.{all_below}
use Rattle.base64.proofs.Tables.{all_below_at, are_tables_alphabet, is_alphabet_symbol}
use Rattle.base64.proofs.EngineFacts.{decode_of-encode_of}
use Rattle.base64.proofs.RoundTrip.{length-encode_symbols}
use Rattle.zpath.specs.Grammar.{is_empty}
use Rattle.zpath.proofs.NameTests.{not_above}
use Rattle.ztree.specs.declared.limits.TheConstants.{MAX_DATA}
use Rattle.zscript_text.specs.LineWords.{data_of, data_text, full_data}
use Rattle.zscript_text.proofs.Numerals.{filled}
use Rattle.zsnapshots.proofs.export_lemmas.Words.{AreMarks, IsMark, IsWord, marks-append}

abbrev table : List ℕ
table = standard.encode_table

-- ---- symbols

no_symbol_is_a_space : all_below (λ i. nat_le 33 (slice_index table i)) 64 ≡ true
no_symbol_is_a_space = refl

symbol_mark : (i : ℕ) → i < 64 → IsMark (slice_index table i)
symbol_mark i below = (
  leb-true 33 (slice_index table i) (all_below_at (λ k. nat_le 33 (slice_index table k)) 64 i no_symbol_is_a_space below),
  (is_alphabet_symbol table standard.padding.value i (are_tables_alphabet table standard.decode_table standard.padding.value standard.tables)
      below).1,
)

symbols_marks : (bytes : List ℕ) → IsBytes bytes → AreMarks (encode_symbols table bytes)
unfolding encode_symbols
symbols_marks [] are = tt
symbols_marks (a ∷ []) are =
    let la = are 0 in
    (symbol_mark (a / 4) (omega arith), (symbol_mark (a % 4 * 16) (omega arith), tt))
symbols_marks (a ∷ b ∷ []) are =
    let la = are 0 in
    let lb = are 1 in
    (symbol_mark (a / 4) (omega arith), (symbol_mark (a % 4 * 16 + b / 16) (omega arith), (symbol_mark (b % 16 * 4) (omega arith), tt)))
symbols_marks (a ∷ b ∷ c ∷ rest) are =
    let la = are 0 in
    let lb = are 1 in
    let lc = are 2 in (
      symbol_mark (a / 4) (omega arith),
      (
        symbol_mark (a % 4 * 16 + b / 16) (omega arith),
        (symbol_mark (b % 16 * 4 + c / 64) (omega arith), (symbol_mark (c % 64) (omega arith), symbols_marks rest (λ i. are (suc (suc (suc i)))))),
      ),
    )

padding_marks : (n : ℕ) → AreMarks (replicate n 61)
padding_marks zero = tt
padding_marks (suc n) = ((omega arith, omega arith), padding_marks n)

encoded_marks : (bytes : List ℕ) → IsBytes bytes → AreMarks (encode_of standard bytes)
encoded_marks bytes are =
    marks-append (encode_symbols table bytes) (replicate (padding_len (length bytes)) 61) (symbols_marks bytes are)
    (padding_marks (padding_len (length bytes)))

-- ---- two symbols at least

pub record HasTwo (text : List ℕ) : Type 0 where
  pub first : ℕ
  pub second : ℕ
  pub more : List ℕ
  pub is : text ≡ first ∷ second ∷ more

two_symbols : (bytes : List ℕ) → is_empty bytes ≡ false → HasTwo (encode_of standard bytes)
unfolding encode_symbols
two_symbols [] some = cc
two_symbols (a ∷ []) some = record { first = _; second = _; more = _; is = refl }
two_symbols (a ∷ b ∷ []) some = record { first = _; second = _; more = _; is = refl }
two_symbols (a ∷ b ∷ c ∷ rest) some = record { first = _; second = _; more = _; is = refl }

never : (b : Bool) → (b && false) ≡ false
never true = refl
never false = refl

not_a_dash : (text : List ℕ) → HasTwo text → bytes_eq text (codes "-") ≡ false
not_a_dash text two = rw two.is (never (nat_eq two.first 45))

some_bytes : (text : List ℕ) → HasTwo text → 0 < length text
some_bytes text two = rw two.is (omega arith)

-- ---- the text of data

kept : (bytes : List ℕ) → is_empty bytes ≡ false → length bytes ≤ MAX_DATA → full_data (Ok bytes) ≡ Some bytes
kept bytes some short =
    let few : nat_lt MAX_DATA (length bytes) ≡ false = not_above MAX_DATA (length bytes) short in
    rw (some, few) refl

pub nothing : (bytes : List ℕ) → is_empty bytes ≡ true → bytes ≡ []
nothing [] e = refl
nothing (b ∷ bytes) e = let some = filled (b ∷ bytes) (omega arith) in cc

pub data_of-text : (bytes : List ℕ) → IsBytes bytes → length bytes ≤ MAX_DATA → data_of (data_text bytes) ≡ Some bytes
data_of-text bytes are short = by (is_empty bytes) refl
  where
    by : (b : Bool) → is_empty bytes ≡ b → data_of (cond b (codes "-") (encode_of standard bytes)) ≡ Some bytes
    by true e = ap Some (sym (nothing bytes e))
    by false e =
        ap (λ b. cond b (Some []) (full_data (decode_of standard (encode_of standard bytes))))
        (not_a_dash (encode_of standard bytes) (two_symbols bytes e))
        ∙ ap full_data (decode_of-encode_of standard bytes refl are) ∙ kept bytes e short

pub data_word : (bytes : List ℕ) → IsBytes bytes → IsWord (data_text bytes)
data_word bytes are = by (is_empty bytes) refl
  where
    by : (b : Bool) → is_empty bytes ≡ b → IsWord (cond b (codes "-") (encode_of standard bytes))
    by true e = record { some = omega arith; marks = ((omega arith, omega arith), tt) }
    by false e = record { some = some_bytes (encode_of standard bytes) (two_symbols bytes e); marks = encoded_marks bytes are }

padding_few : (n : ℕ) → padding_len n ≤ 2
padding_few n = omega arith

length-replicate : (n b : ℕ) → length (replicate n b) ≡ n
length-replicate zero b = refl
length-replicate (suc n) b = let more = length-replicate n b in omega (arith, more)

pub data_length : (bytes : List ℕ) → length bytes ≤ MAX_DATA → length (data_text bytes) ≤ 90000
data_length bytes short = by (is_empty bytes)
  where
    by : (b : Bool) → length (cond b (codes "-") (encode_of standard bytes)) ≤ 90000
    by true = omega arith
    by false =
        let symbols = length-encode_symbols table bytes in
        let both = length-append (encode_symbols table bytes) (replicate (padding_len (length bytes)) 61) in
        let padding = length-replicate (padding_len (length bytes)) 61 in
        let few = padding_few (length bytes) in
        let all : length (encode_symbols table bytes ++ replicate (padding_len (length bytes)) 61) ≤ 90000 = omega
        (arith, symbols, both, padding, few, short) in
        all
