-- Lists no two of whose members are alike, and lists each two of whose members are in a relation.
use Rattle.std.proofs.Common.{◌≡◌, List, [], ◌∷◌, ◌++◌, map, refl, sym, ap, ◌∙◌, subst, inl, inr}
use Rattle.zcalls.specs.Lists.{Among, NoTwo}
use Rattle.zcalls.proofs.Among.{among_cases}
use Rattle.zlinearizability.specs.legal.Prefix.{Pairwise}
use Rattle.zlinearizability.proofs.legal_lemmas.lists.Members.{among_last, among_inserted, among_insert}

-- members that are alike are one, where no two are
pub only_one : {A : Type 0} (R : A → A → Type 0) (xs : List A) → NoTwo R xs → (x y : A) → Among x xs → Among y xs → R x y → R y x → x ≡ y
only_one R [] once x y a b r s = absurd a
only_one R (z ∷ zs) once x y (inl e) (inl f) r s = sym e ∙ f
only_one R (z ∷ zs) once x y (inl e) (inr b) r s = absurd (once.0 y b (subst (λ w. R w y) (sym e) r))
only_one R (z ∷ zs) once x y (inr a) (inl f) r s = absurd (once.0 x a (subst (λ w. R w x) (sym f) s))
only_one R (z ∷ zs) once x y (inr a) (inr b) r s = only_one R zs once.1 x y a b r s

-- a new one in the middle
pub no_two_insert : {A : Type 0} (R : A → A → Type 0) (y : A) (xs ys : List A) → ((x : A) → Among x (xs ++ ys) → R x y → ⊥)
    → ((x : A) → Among x (xs ++ ys) → R y x → ⊥) → NoTwo R (xs ++ ys) → NoTwo R (xs ++ y ∷ ys)
no_two_insert R y [] ys f g h = (g, h)
no_two_insert R y (z ∷ xs) ys f g h = (
  λ x a r. elim (among_inserted x y xs ys a) [ inl e ↦ f z (inl refl) (subst (R z) (sym e) r) | inr b ↦ h.0 x b r ],
  no_two_insert R y xs ys (λ x a. f x (inr a)) (λ x a. g x (inr a)) h.1,
)

-- a new one at the end
pub no_two_last : {A : Type 0} (R : A → A → Type 0) (xs : List A) (y : A) → ((x : A) → Among x xs → R x y → ⊥) → NoTwo R xs → NoTwo R (xs ++ y ∷ [])
no_two_last R [] y f h = (λ x a. absurd a, tt)
no_two_last {A} R (z ∷ xs) y f h = (
  λ x a r. elim (among_last x xs y a) [ inl b ↦ h.0 x b r | inr e ↦ f z (inl refl) (subst (R z) (sym e) r) ],
  no_two_last R xs y (λ x a. f x (inr a)) h.1,
)

-- one is taken out
pub no_two_without : {A : Type 0} (R : A → A → Type 0) (xs : List A) (m : A) (ys : List A) → NoTwo R (xs ++ m ∷ ys) → NoTwo R (xs ++ ys)
no_two_without R [] m ys h = h.1
no_two_without R (x ∷ xs) m ys h = (λ z a. h.0 z (among_insert z m xs ys a), no_two_without R xs m ys h.1)

-- the values of a function, where no two of the arguments have values that are alike
pub no_two_map : {A B : Type 0} (f : A → B) (R : B → B → Type 0) (xs : List A) → NoTwo (λ x y. R (f x) (f y)) xs → NoTwo R (map f xs)
no_two_map f R [] h = tt
no_two_map f R (x ∷ xs) h = (λ y a r. let m = found xs y a in h.0 m.0 m.1 (subst (R (f x)) (sym m.2) r), no_two_map f R xs h.1)
  where
    found : (xs : List _) (y : _) → Among y (map f xs) → (x : _) × Among x xs × (f x ≡ y)
    found [] y a = absurd a
    found (z ∷ zs) y (inl e) = (z, inl refl, e)
    found (z ∷ zs) y (inr a) = let m = found zs y a in (m.0, inr m.1, m.2)

-- and the other way round
pub no_two_of_map : {A B : Type 0} (f : A → B) (R : B → B → Type 0) (xs : List A) → NoTwo R (map f xs) → NoTwo (λ x y. R (f x) (f y)) xs
no_two_of_map f R [] h = tt
no_two_of_map f R (x ∷ xs) h = (λ y a r. h.0 (f y) (mapped xs y a) r, no_two_of_map f R xs h.1)
  where
    mapped : (xs : List _) (y : _) → Among y xs → Among (f y) (map f xs)
    mapped [] y a = absurd a
    mapped (z ∷ zs) y (inl e) = inl (ap f e)
    mapped (z ∷ zs) y (inr a) = inr (mapped zs y a)

-- each two members, in a list that continues
pub pairwise_append : {A : Type 0} (R : A → A → Type 0) (xs ys : List A) → Pairwise R xs → Pairwise R ys
    → ((x y : A) → Among x xs → Among y ys → R x y) → Pairwise R (xs ++ ys)
pairwise_append R [] ys h k f = k
pairwise_append {A} R (x ∷ xs) ys h k f = (
  λ y a. elim (among_cases y xs ys a) [ inl b ↦ h.0 y b | inr c ↦ f x y (inl refl) c ],
  pairwise_append R xs ys h.1 k (λ z y a b. f z y (inr a) b),
)

-- in a list with one more at its end
pub pairwise_last : {A : Type 0} (R : A → A → Type 0) (xs : List A) (y : A) → Pairwise R xs → ((x : A) → Among x xs → R x y)
    → Pairwise R (xs ++ y ∷ [])
pairwise_last {A} R xs y h f = pairwise_append R xs (y ∷ []) h (λ z a. absurd a, tt)
    (λ x z a b. elim b [ inl e ↦ subst (R x) e (f x a) | inr c ↦ absurd c ])
