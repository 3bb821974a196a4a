-- The first LF of some bytes splits them.
use Rattle.std.proofs.Common.{◌≡◌, ◌<◌, ◌+◌, ◌-◌, ℕ, zero, suc, Bool, true, false, List, [], ◌∷◌, ◌++◌, length, take}
use Rattle.std.proofs.Common.{drop, slice_index, refl, sym, ap, ◌∙◌, arith, add-one, ◌==◌}
use Rattle.std.proofs.lemmas.Bool.Decides.{nat_tests}
use Rattle.std.proofs.lemmas.List.{take_all, length-drop}
use Rattle.zscript.specs.support.Lines.{IsPart}

not_true : (b : Bool) → ¬ (b ≡ true) → b ≡ false
not_true true h = absurd (h refl)
not_true false h = refl

is_end : (x : ℕ) → (x == 10) ≡ true → x ≡ 10
is_end x e = grind (arith, nat_tests)

abbrev pub NoEndBelow : List ℕ → ℕ → Type 0
NoEndBelow bytes k = (j : ℕ) → j < k → ¬ ((slice_index bytes j == 10) ≡ true)

pub IsPart-from_none : (bytes : List ℕ) → NoEndBelow bytes (length bytes) → IsPart bytes
IsPart-from_none [] h = tt
IsPart-from_none (x ∷ bytes) h = (not_true _ (h 0 (omega arith)), IsPart-from_none bytes (λ j below. h (suc j) (omega arith)))

pub record Split (bytes : List ℕ) (k : ℕ) (more : List ℕ) : Type 0 where
  pub part : IsPart (take k bytes)
  pub whole : bytes ≡ take k bytes ++ 10 ∷ more

split_at_first : (bytes : List ℕ) (k : ℕ) → NoEndBelow bytes k → k < length bytes → (slice_index bytes k == 10) ≡ true
    → Split bytes k (drop (suc k) bytes)
split_at_first [] k none below here = absurd (omega arith)
split_at_first (x ∷ bytes) zero none below here = record { part = tt; whole = ap (λ b. b ∷ bytes) (is_end x here) }
split_at_first (x ∷ bytes) (suc k) none below here =
    let later = split_at_first bytes k (λ j b. none (suc j) (omega arith)) (omega arith) here in
    record { part = (not_true _ (none 0 (omega arith)), later.part); whole = ap (λ t. x ∷ t) later.whole }

rest_of-drop : (bytes : List ℕ) (k : ℕ) → take (length bytes - (k + 1)) (drop (k + 1) bytes) ≡ drop (suc k) bytes
rest_of-drop bytes k = take_all _ _ (omega (arith, length-drop (k + 1) bytes)) ∙ ap (λ n. drop n bytes) (add-one k)

-- with what follows it, as the code cuts it off
pub cut_at_first : (bytes : List ℕ) (k : ℕ) → NoEndBelow bytes k → k < length bytes → (slice_index bytes k == 10) ≡ true
    → Split bytes k (take (length bytes - (k + 1)) (drop (k + 1) bytes))
cut_at_first bytes k none below here =
    let split = split_at_first bytes k none below here in
    record { part = split.part; whole = split.whole ∙ ap (λ t. take k bytes ++ 10 ∷ t) (sym (rest_of-drop bytes k)) }
