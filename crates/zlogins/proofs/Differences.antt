-- Bytes that are compared without a stop at the first that differs. The accumulated difference is 0
-- as long as there is none.
use Rattle.std.proofs.Common.{◌≡◌, ℕ, zero, suc, ◌+◌, ◌<◌, ◌≤◌, Bool, true, false, ◌&&◌, nat_eq, List, length, drop, get_or, bit_or, bit_xor, arith, refl, sym, ap, ◌∙◌, ◌⊎◌, inl, inr}
use Rattle.std.proofs.lemmas.Bool.{and_left, cases_eq, eq-eqb, false_from_ne_true, ne_eqb}
use Rattle.std.proofs.lemmas.Nat.{le_or_l}
use Rattle.std.proofs.lemmas.List.{drop_all, drop_more}
use lib.Bits.{xor_assoc, xor_self, xor_zero_r}
use lib.Pointwise.{pointwise, pointwise_long}

or-zero : (a b : ℕ) → nat_eq (bit_or a b) 0 ≡ (nat_eq a 0 && nat_eq b 0)
or-zero zero b = refl
or-zero (suc a) b =
    let more = le_or_l (suc a) b in
    ne_eqb (bit_or (suc a) b) 0 (λ none. omega (arith, more, none))
    ∙ sym (and_left (nat_eq (suc a) 0) (nat_eq b 0) (ne_eqb (suc a) 0 (λ none. omega (arith, none))))

-- two numbers whose bits differ nowhere are one
same_from_xor : (a b : ℕ) → bit_xor a b ≡ 0 → a ≡ b
same_from_xor a b none =
    sym (xor_zero_r a) ∙ ap (bit_xor a) (sym (xor_self b)) ∙ sym (xor_assoc a b b) ∙ ap (λ x. bit_xor x b) none

xor-zero : (a b : ℕ) → nat_eq (bit_xor a b) 0 ≡ nat_eq a b
xor-zero a b = at (cases_eq a b) where
  at : (a ≡ b) ⊎ (a ≡ b → ⊥) → nat_eq (bit_xor a b) 0 ≡ nat_eq a b
  at (inl e) = rw e (eq-eqb (bit_xor b b) 0 (xor_self b) ∙ sym (eq-eqb b b refl))
  at (inr other) = ne_eqb (bit_xor a b) 0 (λ none. other (same_from_xor a b none)) ∙ sym (ne_eqb a b other)

and_assoc : (p q r : Bool) → ((p && q) && r) ≡ (p && (q && r))
and_assoc true q r = refl
and_assoc false q r = refl

-- the result so far, and whether the rests are the same
abbrev pub reported : ℕ → List ℕ → List ℕ → Bool
reported difference xs ys = nat_eq difference 0 && pointwise nat_eq xs ys

-- one byte more
pub reported_more : (difference : ℕ) (xs ys : List ℕ) (i d e : ℕ) → i < length xs → i < length ys
    → reported (bit_or difference (bit_xor (get_or xs i d) (get_or ys i e))) (drop (i + 1) xs) (drop (i + 1) ys)
    ≡ reported difference (drop i xs) (drop i ys)
reported_more difference xs ys i d e in_xs in_ys =
    let x = get_or xs i d in
    let y = get_or ys i e in
    let rest = pointwise nat_eq (drop (i + 1) xs) (drop (i + 1) ys) in
    rw (drop_more xs i d in_xs, drop_more ys i e in_ys) (
    ap (λ b. b && rest) (or-zero difference (bit_xor x y) ∙ ap (λ b. nat_eq difference 0 && b) (xor-zero x y))
    ∙ and_assoc (nat_eq difference 0) (nat_eq x y) rest
    )

and-true : (b : Bool) → b ≡ (b && true)
and-true true = refl
and-true false = refl

-- no byte more
pub reported_all : (difference : ℕ) (xs ys : List ℕ) (i : ℕ) → length xs ≤ i → length ys ≤ i
    → nat_eq difference 0 ≡ reported difference (drop i xs) (drop i ys)
reported_all difference xs ys i xs_end ys_end =
    rw (drop_all i xs xs_end, drop_all i ys ys_end) (and-true (nat_eq difference 0))

-- bytes of another number are others
pub other_length : (xs ys : List ℕ) → (length xs ≡ length ys → ⊥) → false ≡ pointwise nat_eq xs ys
other_length xs ys other = sym (false_from_ne_true (pointwise nat_eq xs ys) (λ all. other (pointwise_long nat_eq xs ys all)))
