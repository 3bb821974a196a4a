-- A number below 2 ^ 32 is that of its eight digits.
use Rattle.std.proofs.Common.{◌≡◌, ℕ, ◌+◌, ◌*◌, ◌-◌, ◌/◌, ◌%◌, ◌<◌, ◌≤◌, Bool, true, false, if◌then◌else◌, List, get_or, refl, sym, ◌∙◌, ap, arith}
use Rattle.std.specs.Prelude.{nat_lt}
use Rattle.std.proofs.lemmas.Bool.{lt-ltb, le-ltb, ltb-true, ltb-false}
use Rattle.zjournal.specs.Checksum.{digit, digits}

-- the number of a digit
abbrev pub number : ℕ → ℕ
number byte = if nat_lt byte 58 then byte - 48 else byte - 87

from_low : (n : ℕ) → n < 10 → number (48 + n) ≡ n
from_low n small = rw (lt-ltb (48 + n) 58 (omega (arith, small))) (omega arith)

from_high : (n : ℕ) → 10 ≤ n → number (87 + n) ≡ n
from_high n large = rw (le-ltb (87 + n) 58 (omega (arith, large))) (omega arith)

pub number_of_digit : (n : ℕ) → number (digit n) ≡ n
number_of_digit n = by_test (nat_lt n 10) refl
  where
    by_test : (b : Bool) → nat_lt n 10 ≡ b → number (digit n) ≡ n
    by_test true is = rw is (from_low n (ltb-true n 10 is))
    by_test false is = rw is (from_high n (ltb-false n 10 is))

-- the number of eight digits
abbrev pub whole : ℕ → ℕ → ℕ → ℕ → ℕ → ℕ → ℕ → ℕ → ℕ
whole a b c d e f g h = a * 268435456 + b * 16777216 + c * 1048576 + d * 65536 + e * 4096 + f * 256 + g * 16 + h

pub whole_is : (n : ℕ) → n < 4294967296
    → whole (n / 268435456 % 16) (n / 16777216 % 16) (n / 1048576 % 16) (n / 65536 % 16) (n / 4096 % 16) (n / 256 % 16) (n / 16 % 16) (n % 16) ≡ n
whole_is n small = omega (arith, small)

-- the number of a text that begins with eight digits
abbrev pub number_in : List ℕ → ℕ
number_in text =
    whole (number (get_or text 0 0)) (number (get_or text 1 0)) (number (get_or text 2 0)) (number (get_or text 3 0))
    (number (get_or text 4 0)) (number (get_or text 5 0)) (number (get_or text 6 0)) (number (get_or text 7 0))

number_in_digits : (n : ℕ) → n < 4294967296 → number_in (digits n) ≡ n
number_in_digits n small = simp number_of_digit (whole_is n small)

pub same_digits : (m n : ℕ) → m < 4294967296 → n < 4294967296 → digits m ≡ digits n → m ≡ n
same_digits m n first second is = sym (number_in_digits m first) ∙ ap number_in is ∙ number_in_digits n second

-- what is read of eight digits is their number
pub read_is : (text : List ℕ) (n a b c d e f g h : ℕ) → n < 4294967296 → text ≡ digits n
    → ((m : ℕ) → m < 16 → get_or text 0 0 ≡ digit m → a ≡ m) → ((m : ℕ) → m < 16 → get_or text 1 0 ≡ digit m → b ≡ m)
    → ((m : ℕ) → m < 16 → get_or text 2 0 ≡ digit m → c ≡ m) → ((m : ℕ) → m < 16 → get_or text 3 0 ≡ digit m → d ≡ m)
    → ((m : ℕ) → m < 16 → get_or text 4 0 ≡ digit m → e ≡ m) → ((m : ℕ) → m < 16 → get_or text 5 0 ≡ digit m → f ≡ m)
    → ((m : ℕ) → m < 16 → get_or text 6 0 ≡ digit m → g ≡ m) → ((m : ℕ) → m < 16 → get_or text 7 0 ≡ digit m → h ≡ m)
    → whole a b c d e f g h ≡ n
read_is text n a b c d e f g h small is at_a at_b at_c at_d at_e at_f at_g at_h =
    rw (
      at_a (n / 268435456 % 16) (omega arith) (ap (λ (l : List ℕ). get_or l 0 0) is),
      at_b (n / 16777216 % 16) (omega arith) (ap (λ (l : List ℕ). get_or l 1 0) is),
      at_c (n / 1048576 % 16) (omega arith) (ap (λ (l : List ℕ). get_or l 2 0) is),
      at_d (n / 65536 % 16) (omega arith) (ap (λ (l : List ℕ). get_or l 3 0) is),
      at_e (n / 4096 % 16) (omega arith) (ap (λ (l : List ℕ). get_or l 4 0) is),
      at_f (n / 256 % 16) (omega arith) (ap (λ (l : List ℕ). get_or l 5 0) is),
      at_g (n / 16 % 16) (omega arith) (ap (λ (l : List ℕ). get_or l 6 0) is),
      at_h (n % 16) (omega arith) (ap (λ (l : List ℕ). get_or l 7 0) is),
    ) (whole_is n small)
