-- A number below NUMBER_BOUND is spelled by its decimal text alone.
use Rattle.std.proofs.Common.{◌≡◌, ℕ, zero, suc, ◌<◌, ◌≤◌, ◌+◌, ◌-◌, ◌^◌, Bool, true, false, not, ◌||◌, List, [], ◌∷◌, length, get_or, Some, None, if◌then◌else◌, refl, sym, ap, ◌∙◌, arith, decimal}
use Rattle.std.specs.Prelude.{nat_le}
use Rattle.std.specs.Char.{is_ascii_digit}
use Rattle.std.specs.List.{list_all}
use Rattle.std.specs.Str.Parse.{digits_value}
use Rattle.std.proofs.lemmas.Bool.Decides.{nat_tests}
use Rattle.std.proofs.lemmas.Fmt.{digits_decimal, digits_value-decimal, decimal-digits_value, decimal_nonempty, decimal_digit, first_decimal}
use Rattle.zpath.specs.Grammar.{is_empty}
use Rattle.zscript_text.specs.declared.limits.TheConstants.{NUMBER_BOUND}
use Rattle.zscript_text.specs.LineWords.{has_leading_zero, number_of}
use Rattle.zscript_text.specs.Laws.{ReadsDecimal, IsDecimal}
use Rattle.zscript_text.proofs.Numerals.{own, filled, under, both_false}

-- a word that begins with another digit has no leading zero
no_zero : (word : List ℕ) → 48 < get_or word 0 0 → has_leading_zero word ≡ false
no_zero [] h = refl
no_zero (d ∷ word) h = grind (arith, nat_tests)

no_leading_zero : (n : ℕ) → n < 2 ^ 64 → has_leading_zero (decimal n) ≡ false
no_leading_zero zero h = ap has_leading_zero (decimal_digit 0 (omega arith))
no_leading_zero (suc n) h = no_zero (decimal (suc n)) (first_decimal (suc n) (omega arith) h)

pub reads_decimal : ReadsDecimal
reads_decimal n h =
    let small : n < 2 ^ 64 = omega arith in
    rw (digits_decimal own n small, no_leading_zero n small, filled (decimal n) (decimal_nonempty n small), digits_value-decimal own n small, under n h) refl

-- a word of one digit spells its value
pub one_digit : (digit : ℕ) → 48 ≤ digit → digit ≤ 57 → number_of (digit ∷ []) ≡ Some (digit - 48)
one_digit digit low high =
    let is : 48 + (digit - 48) ≡ digit = omega arith in
    let spelled = decimal_digit (digit - 48) (omega arith) ∙ ap (λ byte. byte ∷ []) is in
    ap number_of (sym spelled) ∙ reads_decimal (digit - 48) (omega arith)

-- a number is given only where no test holds
some_of : (t : Bool) (v n : ℕ) → (if t then None else Some v) ≡ Some n → (t ≡ false) × (v ≡ n)
some_of true v n e = cc
some_of false v n e = (refl, cc)

some_byte : (word : List ℕ) → is_empty word ≡ false → 0 < length word
some_byte word h = grind (arith, nat_tests)

one_zero : (word : List ℕ) → has_leading_zero word ≡ false → 0 < length word → get_or word 0 0 ≡ 48 → length word ≡ 1
one_zero [] h some e = absurd (omega arith)
one_zero (d ∷ word) h some e = grind (arith, nat_tests)

digits : (b : Bool) → not b ≡ false → b ≡ true
digits true h = refl
digits false h = cc

below : (v : ℕ) → nat_le NUMBER_BOUND v ≡ false → v < 2 ^ 64
below v h = grind (arith, nat_tests)

pub is_decimal : IsDecimal
is_decimal word n e =
    let empty = is_empty word in
    let other = not (list_all is_ascii_digit word) in
    let large = nat_le NUMBER_BOUND (digits_value 10 word) in
    let s = some_of (empty || other || has_leading_zero word || large) (digits_value 10 word) n e in
    let small = both_false (empty || other || has_leading_zero word) large s.0 in
    let leading = both_false (empty || other) (has_leading_zero word) small.0 in
    let filled = both_false empty other leading.0 in
    let some = some_byte word filled.0 in
    sym (decimal-digits_value own word (digits _ filled.1) some (one_zero word leading.1 some) (below (digits_value 10 word) small.1)) ∙ ap decimal s.1
