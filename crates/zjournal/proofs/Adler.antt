-- What continues from a sum is a sum.
use Rattle.std.proofs.Common.{◌≡◌, ℕ, ◌+◌, ◌*◌, ◌/◌, ◌%◌, ◌<◌, List, [], ◌∷◌, sym, subst, arith}
use Rattle.zjournal.specs.Checksum.{IsSum, adler_from, adler_after, sum_after_all}

pub one_is_sum : IsSum 1
one_is_sum = (omega arith, omega arith)

-- a sum is below 2 ^ 32
pub sum_is_small : (sum : ℕ) → IsSum sum → sum < 4294967296
sum_is_small sum is = omega (arith, is.1)

-- the sum of two sums
module _ (a b : ℕ) (first : a < 65521) (second : b < 65521) where
  low_is : (b * 65536 + a) % 65536 ≡ a
  low_is = omega (arith, first)

  high_is : (b * 65536 + a) / 65536 ≡ b
  high_is = omega (arith, first)

  both_are_sum : IsSum (b * 65536 + a)
  both_are_sum = (subst (λ (n : ℕ). n < 65521) (sym low_is) first, subst (λ (n : ℕ). n < 65521) (sym high_is) second)

-- what continues from a sum is one
from_is_sum : (a b : ℕ) (text : List ℕ) → a < 65521 → b < 65521 → IsSum (adler_from a b text)
from_is_sum a b [] first second = both_are_sum a b first second
from_is_sum a b (byte ∷ text) first second =
    from_is_sum ((a + byte) % 65521) ((b + (a + byte) % 65521) % 65521) text (omega arith) (omega arith)

after_is_sum : (sum : ℕ) (text : List ℕ) → IsSum sum → IsSum (adler_after sum text)
after_is_sum sum text is = from_is_sum (sum % 65536) (sum / 65536) text is.0 is.1

pub all_is_sum : (sum : ℕ) (texts : List (List ℕ)) → IsSum sum → IsSum (sum_after_all sum texts)
all_is_sum sum [] is = is
all_is_sum sum (text ∷ texts) is = all_is_sum (adler_after sum text) texts (after_is_sum sum text is)
