-- Elements of lists by position, and a choice of one for each.
use Rattle.std.proofs.Common.{◌≡◌, ◌<◌, ◌+◌, ℕ, zero, suc, List, [], ◌∷◌, ◌++◌, length, map, get_or, refl, sym, ap, subst, arith}
use mathlib.Core.Logic.{∥∥₁_elim, ∥∥₁_map, ∥∥₁_prop}
use mathlib.Core.Option.{some, some-injective, some-ne-none}
use lib.ListN.{get_elem?}

-- there is one at each position of the list
pub element : {X : Type 0} (xs : List X) (i : ℕ) → i < length xs → (x : X) × (get_elem? xs i ≡ some x)
element [] i lt = absurd (omega (arith, lt))
element (x ∷ xs) zero lt = (x, refl)
element (x ∷ xs) (suc i) lt = element xs i (omega (arith, lt))

pub element_map : {X Y : Type 0} (f : X → Y) (xs : List X) (i : ℕ) (x : X) → get_elem? xs i ≡ some x → get_elem? (map f xs) i ≡ some (f x)
element_map f [] i x at = absurd (some-ne-none x (sym at))
element_map f (y ∷ ys) zero x at = ap some (ap f (some-injective y x at))
element_map f (y ∷ ys) (suc i) x at = element_map f ys i x at

pub element_or : {X Y : Type 0} (f : X → Y) (xs : List X) (i : ℕ) (x : X) (none : Y) → get_elem? xs i ≡ some x → get_or (map f xs) i none ≡ f x
element_or f [] i x none at = absurd (some-ne-none x (sym at))
element_or f (y ∷ ys) zero x none at = ap f (some-injective y x at)
element_or f (y ∷ ys) (suc i) x none at = element_or f ys i x none at

pub element_left : {X : Type 0} (xs ys : List X) (i : ℕ) → i < length xs → get_elem? (xs ++ ys) i ≡ get_elem? xs i
element_left [] ys i lt = absurd (omega (arith, lt))
element_left (x ∷ xs) ys zero lt = refl
element_left (x ∷ xs) ys (suc i) lt = element_left xs ys i (omega (arith, lt))

pub element_right : {X : Type 0} (xs ys : List X) (i j : ℕ) → i ≡ length xs + j → get_elem? (xs ++ ys) i ≡ get_elem? ys j
element_right [] ys i j at = ap (λ k. get_elem? ys k) (omega (arith, at))
element_right (x ∷ xs) ys zero j at = absurd (omega (arith, at))
element_right (x ∷ xs) ys (suc i) j at = element_right xs ys i j (omega (arith, at))

-- one for each element, with this between them
abbrev pub Chosen : {E D : Type 0} → (ℕ → E → D → Type 0) → List E → List D → Type 0
Chosen P [] [] = Unit {0}
Chosen P [] (d ∷ ds) = ⊥
Chosen P (e ∷ es) [] = ⊥
Chosen P (e ∷ es) (d ∷ ds) = P 0 e d × Chosen (λ i. P (suc i)) es ds

-- where there is one for each, there is such a list
pub choose : {E D : Type 0} (P : ℕ → E → D → Type 0) (es : List E)
    → ((i : ℕ) (e : E) → get_elem? es i ≡ some e → ∥ ((d : D) × P i e d) ∥₁) → ∥ ((ds : List D) × Chosen P es ds) ∥₁
choose P [] each = ∣ ([], tt) ∣₁
choose P (e ∷ es) each =
    ∥∥₁_elim (each 0 e refl) ∥∥₁_prop (λ d.
    ∥∥₁_map (choose (λ i. P (suc i)) es (λ i x at. each (suc i) x at)) (λ ds. (d.0 ∷ ds.0, (d.1, ds.1))))

pub chosen_weaker : {E D : Type 0} (P Q : ℕ → E → D → Type 0) (es : List E) (ds : List D) → Chosen P es ds
    → ((i : ℕ) (e : E) (d : D) → P i e d → Q i e d) → Chosen Q es ds
chosen_weaker P Q [] [] all weaker = tt
chosen_weaker P Q [] (d ∷ ds) all weaker = absurd all
chosen_weaker P Q (e ∷ es) [] all weaker = absurd all
chosen_weaker P Q (e ∷ es) (d ∷ ds) all weaker =
    (weaker 0 e d all.0, chosen_weaker (λ i. P (suc i)) (λ i. Q (suc i)) es ds all.1 (λ i. weaker (suc i)))

pub chosen_at : {E D : Type 0} (P : ℕ → E → D → Type 0) (es : List E) (ds : List D) → Chosen P es ds
    → (i : ℕ) (e : E) (none : D) → get_elem? es i ≡ some e → P i e (get_or ds i none)
chosen_at P [] ds all i e none at = absurd (some-ne-none e (sym at))
chosen_at P (x ∷ es) [] all i e none at = absurd all
chosen_at P (x ∷ es) (d ∷ ds) all zero e none at = subst (λ y. P 0 y d) (some-injective x e at) all.0
chosen_at P (x ∷ es) (d ∷ ds) all (suc i) e none at = chosen_at (λ i. P (suc i)) es ds all.1 i e none at
