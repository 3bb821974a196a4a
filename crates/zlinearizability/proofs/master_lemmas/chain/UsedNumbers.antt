-- The numbers of servers that were used, with one more.
use Rattle.std.specs.Prelude.{◌||◌}
use Rattle.std.proofs.Common.{◌≡◌, ◌⊎◌, ℕ, true, ◌==◌, List, refl, sym, ap, ◌∙◌, inl, inr, eqb-true, eq-eqb}
use Rattle.zcalls.proofs.Among.{test}
use Rattle.zprotocol.specs.master.View.{is_among, with_number}
use Rattle.zprotocol.proofs.master_lemmas.Numbers.{among_with_number}

-- used numbers with one more
pub used_is : (x z : ℕ) (used : List ℕ) → is_among z (with_number x used) ≡ true → (is_among z used ≡ true) ⊎ (x ≡ z)
used_is x z used h =
    let either : ((x == z) || is_among z used) ≡ true = sym (among_with_number z x used) ∙ h in
    elim (test (x == z)) [ inl t ↦ inr (eqb-true _ _ t) | inr f ↦ inl (sym (ap (λ b. b || is_among z used) f) ∙ either) ]

-- what was used is
pub used_stays : (x z : ℕ) (used : List ℕ) → is_among z used ≡ true → is_among z (with_number x used) ≡ true
used_stays x z used h = elim (test (x == z)) [
  | inl t ↦ among_with_number z x used ∙ ap (λ b. b || is_among z used) t
  | inr f ↦ among_with_number z x used ∙ ap (λ b. b || is_among z used) f ∙ h
]

-- and so is the new one
pub used_now : (x : ℕ) (used : List ℕ) → is_among x (with_number x used) ≡ true
used_now x used = among_with_number x x used ∙ ap (λ b. b || is_among x used) (eq-eqb x x refl)
