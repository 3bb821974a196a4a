-- What comes before what in a list.
use Rattle.std.proofs.Common.{◌≡◌, ◌⊎◌, ℕ, List, [], ◌∷◌, ◌++◌, refl, sym, ◌∙◌, subst, inl, inr}
use Rattle.zcalls.specs.Lists.{Among, ComesBefore, NoTwo}
use Rattle.zlinearizability.specs.legal.Prefix.{Pairwise}
use Rattle.zlinearizability.proofs.legal_lemmas.lists.Members.{among_last, among_insert, among_mid}

-- what comes before something in a list
pub before_second : {A : Type 0} (x y : A) (h : List A) → ComesBefore x y h → Among y h
before_second x y [] p = absurd p
before_second x y (w ∷ h) (inl p) = inr p.1
before_second x y (w ∷ h) (inr p) = inr (before_second x y h p)

-- what holds of each two members holds of one before another
pub of_pairwise : {A : Type 0} (R : A → A → Type 0) (xs : List A) → Pairwise R xs → (x y : A) → ComesBefore x y xs → R x y
of_pairwise R [] h x y p = absurd p
of_pairwise R (z ∷ zs) h x y (inl p) = subst (λ w. R w y) p.0 (h.0 y p.1)
of_pairwise R (z ∷ zs) h x y (inr p) = of_pairwise R zs h.1 x y p

-- who is right before another
pub stands_before : {A : Type 0} (front rest : List A) (x y : A) → ComesBefore x y (front ++ x ∷ y ∷ rest)
stands_before [] rest x y = inl (refl, inl refl)
stands_before (z ∷ front) rest x y = inr (stands_before front rest x y)

-- and who is before that
pub before_next : {A : Type 0} (front rest : List A) (x y : A) → NoTwo (λ (a b : A). a ≡ b) (front ++ x ∷ y ∷ rest) → (a : A)
    → ComesBefore a y (front ++ x ∷ y ∷ rest) → (a ≡ x) ⊎ ComesBefore a x (front ++ x ∷ y ∷ rest)
before_next [] rest x y apart a (inl p) = inl (sym p.0)
before_next [] rest x y apart a (inr (inl p)) = absurd (apart.1.0 y p.1 refl)
before_next [] rest x y apart a (inr (inr p)) = absurd (apart.1.0 y (before_second a y rest p) refl)
before_next (z ∷ front) rest x y apart a (inl p) = inr (inl (p.0, among_mid x front (y ∷ rest)))
before_next (z ∷ front) rest x y apart a (inr p) = elim (before_next front rest x y apart.1 a p) [ inl e ↦ inl e | inr q ↦ inr (inr q) ]

-- lists one of whose members is taken out
pub before_insert : {A : Type 0} (x y m : A) (xs ys : List A) → ComesBefore x y (xs ++ ys) → ComesBefore x y (xs ++ m ∷ ys)
before_insert x y m [] ys h = inr h
before_insert x y m (z ∷ xs) ys (inl p) = inl (p.0, among_insert y m xs ys p.1)
before_insert x y m (z ∷ xs) ys (inr h) = inr (before_insert x y m xs ys h)

-- who is before another in a list with one more at its end
pub before_last : {A : Type 0} (x y : A) (xs : List A) (z : A) → ComesBefore x y (xs ++ z ∷ []) → ComesBefore x y xs ⊎ (z ≡ y)
before_last x y [] z (inl p) = absurd p.1
before_last x y [] z (inr p) = absurd p
before_last x y (a ∷ xs) z (inl p) = elim (among_last y xs z p.1) [ inl b ↦ inl (inl (p.0, b)) | inr e ↦ inr e ]
before_last x y (a ∷ xs) z (inr p) = elim (before_last x y xs z p) [ inl b ↦ inl (inr b) | inr e ↦ inr e ]

-- of two members one is before the other
pub two_places : (s y : ℕ) (xs : List ℕ) → Among s xs → Among y xs → (s ≡ y) ⊎ (ComesBefore s y xs ⊎ ComesBefore y s xs)
two_places s y [] a b = absurd a
two_places s y (x ∷ xs) (inl e) (inl f) = inl (sym e ∙ f)
two_places s y (x ∷ xs) (inl e) (inr b) = inr (inl (inl (e, b)))
two_places s y (x ∷ xs) (inr a) (inl f) = inr (inr (inl (f, a)))
two_places s y (x ∷ xs) (inr a) (inr b) = elim (two_places s y xs a b) [
  | inl e ↦ inl e
  | inr p ↦ elim p [ inl q ↦ inr (inl (inr q)) | inr q ↦ inr (inr (inr q)) ]
]
