-- Lists of numbers, and chains.
use Rattle.std.proofs.Common.{◌≡◌, ℕ, ◌+◌, ◌<◌, ◌≤◌, Bool, true, false, ◌==◌, nat_lt, List, [], ◌∷◌, ◌++◌, length, refl, ap, ◌∙◌, inl, inr, eqb-true, ltb-true, map, arith}
use Rattle.std.specs.Prelude.{◌||◌}
use Rattle.std.proofs.lemmas.Bool.Decides.{nat_tests}
use mathlib.Core.Bool.{true≢false}
use Rattle.zcalls.proofs.Among.{test}
use Rattle.zprotocol.specs.server.View.{Neighbour}
use Rattle.zprotocol.specs.master.View.{is_among, with_number}
use Rattle.zprotocol.specs.master.Laws.{IsRisingFrom}

-- what is tested twice, and what is tested in another order
or_twice : (b c : Bool) → (b || c) ≡ (b || (b || c))
or_twice true c = refl
or_twice false c = refl

or_swap : (b c d : Bool) → (b || (c || d)) ≡ (c || (b || d))
or_swap true true d = refl
or_swap true false d = refl
or_swap false true d = refl
or_swap false false d = refl

-- a number is among those with another one, if it is that one or was among them
pub among_with_number : (x s : ℕ) (numbers : List ℕ) → is_among x (with_number s numbers) ≡ ((s == x) || is_among x numbers)
among_with_number x s [] = refl
among_with_number x s (n ∷ numbers) = elim (test (n == s)) [
  | inl same ↦
      let is : n ≡ s = eqb-true _ _ same in
      rw same (or_twice (n == x) (is_among x numbers) ∙ ap (λ y. (y == x) || ((n == x) || is_among x numbers)) is)
  | inr other ↦ rw other (elim (test (nat_lt s n)) [
    | inl below ↦ rw below refl
    | inr above ↦ rw above (ap (λ b. (n == x) || b) (among_with_number x s numbers) ∙ or_swap (n == x) (s == x) (is_among x numbers))
  ])
]

-- no number goes out
pub no_fewer : (s : ℕ) (numbers : List ℕ) → length numbers ≤ length (with_number s numbers)
no_fewer s [] = omega arith
no_fewer s (n ∷ numbers) = elim (test (n == s)) [
  | inl same ↦ rw same (omega arith)
  | inr other ↦ rw other (elim (test (nat_lt s n)) [
    | inl below ↦ rw below (omega arith)
    | inr above ↦ rw above (omega (arith, no_fewer s numbers))
  ])
]

-- neither of two tests
first_of_two : (b c : Bool) → (b || c) ≡ false → b ≡ false
first_of_two false c none = refl
first_of_two true c none = absurd (true≢false none)

second_of_two : (b c : Bool) → (b || c) ≡ false → c ≡ false
second_of_two false c none = none
second_of_two true c none = absurd (true≢false none)

-- a number that wasn't there makes one more
pub one_more : (s : ℕ) (numbers : List ℕ) → is_among s numbers ≡ false → length (with_number s numbers) ≡ length numbers + 1
one_more s [] new = refl
one_more s (n ∷ numbers) new = rw (first_of_two (n == s) (is_among s numbers) new) (elim (test (nat_lt s n)) [
  | inl below ↦ rw below (omega arith)
  | inr above ↦ rw above (omega (arith, one_more s numbers (second_of_two (n == s) (is_among s numbers) new)))
])

-- the list still rises
pub still_rising : (first s : ℕ) (numbers : List ℕ) → first ≤ s → IsRisingFrom first numbers → IsRisingFrom first (with_number s numbers)
still_rising first s [] low rising = (low, tt)
still_rising first s (n ∷ numbers) low rising = elim (test (n == s)) [
  | inl same ↦ rw same rising
  | inr other ↦ rw other (elim (test (nat_lt s n)) [
    | inl below ↦ let lower : s < n = ltb-true _ _ below in rw below (low, (omega (arith, lower), rising.1))
    | inr above ↦
        let higher : n + 1 ≤ s = grind (arith, nat_tests, above, other) in
        rw above (rising.0, still_rising (n + 1) s numbers higher rising.1)
  ])
]

-- the numbers of a chain
abbrev pub numbers_of : List Neighbour → List ℕ
numbers_of chain = map (λ member. member.0) chain

-- where the first isn't the one, a later one is
pub later : (b c : Bool) → b ≡ false → (b || c) ≡ true → c ≡ true
later false c first any = any
later true c first any = absurd (true≢false first)

-- who stays after a front stays in the whole
pub among_behind : (x : ℕ) (front chain other : List Neighbour)
    → (is_among x (numbers_of chain) ≡ true → is_among x (numbers_of other) ≡ true)
    → is_among x (numbers_of (front ++ chain)) ≡ true → is_among x (numbers_of (front ++ other)) ≡ true
among_behind x [] chain other stays among = stays among
among_behind x (t ∷ front) chain other stays among = elim (test (t.0 == x)) [
  | inl here ↦ rw here refl
  | inr not ↦ rw not (among_behind x front chain other stays (later (t.0 == x) _ not among))
]
