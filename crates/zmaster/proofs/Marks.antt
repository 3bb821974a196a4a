-- Marks and the numbers that they represent.
use Rattle.std.proofs.Common.{◌≡◌, ℕ, ◌+◌, ◌<◌, ◌≤◌, Bool, true, false, ◌==◌, nat_lt, List, [], ◌∷◌, length, zero, suc, refl, sym, ap, ◌∙◌, arith, get_or}
use Rattle.std.specs.Prelude.{slice_set}
use Rattle.std.specs.List.{range_with_len}
use Rattle.std.proofs.lemmas.Bool.Decides.{nat_tests}
use Rattle.zprotocol.specs.master.View.{is_among, with_number}
use Rattle.zmaster.specs.support.Marks.{numbers_from}

-- a number isn't among those that are above it
among_above : (s first : ℕ) (marks : List Bool) → s < first → is_among s (numbers_from first marks) ≡ false
among_above s first [] low = refl
among_above s first (true ∷ marks) low =
    let other : (first == s) ≡ false = grind (arith, nat_tests, low) in
    rw other (among_above s (first + 1) marks (omega arith))
among_above s first (false ∷ marks) low = among_above s (first + 1) marks (omega arith)

-- a number is among them where it is marked
pub among_marks : (first at : ℕ) (marks : List Bool) (s : ℕ) → first + at ≡ s → at < length marks → get_or marks at false ≡ is_among s (numbers_from first marks)
among_marks first zero (true ∷ marks) s is within =
    let same : (first == s) ≡ true = grind (arith, nat_tests, is) in
    rw same refl
among_marks first zero (false ∷ marks) s is within = sym (among_above s (first + 1) marks (omega arith))
among_marks first (suc at) (true ∷ marks) s is within =
    let other : (first == s) ≡ false = grind (arith, nat_tests, is) in
    rw other (among_marks (first + 1) at marks s (omega arith) (omega arith))
among_marks first (suc at) (false ∷ marks) s is within = among_marks (first + 1) at marks s (omega arith) (omega arith)
among_marks first at [] s is within = absurd (omega arith)

-- a number below all of them goes in front
number_in_front : (s first : ℕ) (marks : List Bool) → s < first → with_number s (numbers_from first marks) ≡ s ∷ numbers_from first marks
number_in_front s first [] low = refl
number_in_front s first (true ∷ marks) low =
    let other : (first == s) ≡ false = grind (arith, nat_tests, low) in
    let below : nat_lt s first ≡ true = grind (arith, nat_tests, low) in
    rw (other, below) refl
number_in_front s first (false ∷ marks) low = number_in_front s (first + 1) marks (omega arith)

-- one more mark is one more number
pub marked_number : (first at : ℕ) (marks : List Bool) (s : ℕ) → first + at ≡ s → at < length marks → numbers_from first (slice_set marks at true) ≡ with_number s (numbers_from first marks)
marked_number first zero (true ∷ marks) s is within =
    let same : (first == s) ≡ true = grind (arith, nat_tests, is) in
    rw same refl
marked_number first zero (false ∷ marks) s is within =
    let here : first ≡ s = omega arith in
    sym (number_in_front s (first + 1) marks (omega arith) ∙ ap (λ n. n ∷ numbers_from (first + 1) marks) (sym here))
marked_number first (suc at) (true ∷ marks) s is within =
    let other : (first == s) ≡ false = grind (arith, nat_tests, is) in
    let above : nat_lt s first ≡ false = grind (arith, nat_tests, is) in
    rw (other, above) (ap (λ ns. first ∷ ns) (marked_number (first + 1) at marks s (omega arith) (omega arith)))
marked_number first (suc at) (false ∷ marks) s is within = marked_number (first + 1) at marks s (omega arith) (omega arith)
marked_number first at [] s is within = absurd (omega arith)

-- there are no more numbers than marks
pub few_numbers : (first : ℕ) (marks : List Bool) → length (numbers_from first marks) ≤ length marks
few_numbers first [] = omega arith
few_numbers first (true ∷ marks) = omega (arith, few_numbers (first + 1) marks)
few_numbers first (false ∷ marks) = omega (arith, few_numbers (first + 1) marks)

-- the number after a range makes it longer
pub number_behind : (first count s : ℕ) → first + count ≡ s → with_number s (range_with_len first count) ≡ range_with_len first (suc count)
number_behind first zero s is = let here : s ≡ first = omega arith in ap (λ n. n ∷ []) here
number_behind first (suc count) s is =
    let other : (first == s) ≡ false = grind (arith, nat_tests, is) in
    let above : nat_lt s first ≡ false = grind (arith, nat_tests, is) in
    rw (other, above) (ap (λ ns. first ∷ ns) (number_behind (first + 1) count s (omega arith)))
