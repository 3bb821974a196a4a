-- Digits in words, and plain bytes as text.
use Rattle.std.proofs.Common.{◌≡◌, ℕ, zero, suc, ◌<◌, ◌^◌, Bool, true, false, not, ◌||◌, List, [], ◌∷◌, length, None, Result, Err, refl, arith, lit<, rules}
use Rattle.std.specs.Char.{is_ascii_digit}
use Rattle.std.specs.List.{list_any, list_all}
use Rattle.std.specs.Prelude.{nat_le}
use Rattle.std.specs.Str.{IsAscii}
use Rattle.std.specs.Str.Parse.{ParsesUnsigned, digits_value}
use Rattle.std.proofs.lemmas.Str.Parse.{IsNumeralModel, numerals_by_value, parse_digits}
use Rattle.std.proofs.lemmas.Bool.Decides.{nat_tests}
use Rattle.zpath.specs.Grammar.{is_empty}
use Rattle.zscript_text.specs.declared.limits.TheConstants.{NUMBER_BOUND}
use Rattle.zscript_text.specs.LineWords.{is_plain, has_leading_zero, number_of}

-- neither test holds where their "or" does not
pub both_false : (a b : Bool) → (a || b) ≡ false → (a ≡ false) × (b ≡ false)
both_false true b e = cc
both_false false b e = (refl, e)

plain_is_low : (b : ℕ) → not (is_plain b) ≡ false → b < 128
plain_is_low b e = grind (arith, nat_tests)

-- plain bytes are text
pub ascii_of_plain : (line : List ℕ) → list_any (λ byte. not (is_plain byte)) line ≡ false → IsAscii line
ascii_of_plain [] h i = lit< tt
ascii_of_plain (b ∷ line) h zero = plain_is_low b (both_false (not (is_plain b)) _ h).0
ascii_of_plain (b ∷ line) h (suc i) = ascii_of_plain line (both_false (not (is_plain b)) _ h).1 i

-- digits and their value, as the lemmas of std take them
pub own : IsNumeralModel (λ ds. list_all is_ascii_digit ds ≡ true) (digits_value 10)
own = numerals_by_value (λ ds. list_all is_ascii_digit ds ≡ true) (search rules)

-- a word of some bytes is not empty
pub filled : (word : List ℕ) → 0 < length word → is_empty word ≡ false
filled word h = grind (arith, nat_tests)

-- a number below the limit is not refused
pub under : (n : ℕ) → n < NUMBER_BOUND → nat_le NUMBER_BOUND n ≡ false
under n h = grind (arith, nat_tests)

-- a word of digits that was not read as a number spells none: it is empty, or the number is larger still
pub number_of-unread : {E : Type 0} (word : List ℕ) (r : Result ℕ E) (e : E) → ParsesUnsigned 64 10 word r → list_all is_ascii_digit word ≡ true → has_leading_zero word ≡ false → r ≡ Err e → number_of word ≡ None
number_of-unread {E = E} word r e parsed digits leading is =
    let none = rw is at (parse_digits own 64 word r parsed digits) in
    by word none digits leading (is_empty word) (nat_le NUMBER_BOUND (digits_value 10 word)) refl refl
  where
    by : (word : List ℕ) → ((0 < length word) × (digits_value 10 word < 2 ^ 64) → ⊥) → list_all is_ascii_digit word ≡ true → has_leading_zero word ≡ false → (s t : Bool) → is_empty word ≡ s → nat_le NUMBER_BOUND (digits_value 10 word) ≡ t → number_of word ≡ None
    by word none digits leading true t e f = rw e refl
    by word none digits leading false true e f = rw (e, digits, leading, f) refl
    by word none digits leading false false e f =
        let some : 0 < length word = grind (arith, nat_tests) in
        let small : digits_value 10 word < 2 ^ 64 = grind (arith, nat_tests) in
        absurd (none (some, small))
