-- The order of two in a list, in two lists one after the other, and in an image.
use Rattle.std.proofs.Common.{◌≡◌, List, [], ◌∷◌, ◌++◌, map, refl, sym, ap, subst, inl, inr}
use Rattle.zcalls.specs.Lists.{Among, ComesBefore, NoTwo}
use Rattle.zcalls.proofs.Among.{among_cases}
use Rattle.zprotocol.proofs.world_lemmas.Among.{among_map, among_first, among_second, among_image}

-- who comes before whom in two lists one after the other
pub before_first : {A : Type 0} (x y : A) (xs ys : List A) → ComesBefore x y xs → ComesBefore x y (xs ++ ys)
before_first x y [] ys before = absurd before
before_first x y (z ∷ xs) ys (inl (here, among)) = inl (here, among_first y xs ys among)
before_first x y (z ∷ xs) ys (inr before) = inr (before_first x y xs ys before)

pub before_second : {A : Type 0} (x y : A) (xs ys : List A) → ComesBefore x y ys → ComesBefore x y (xs ++ ys)
before_second x y [] ys before = before
before_second x y (z ∷ xs) ys before = inr (before_second x y xs ys before)

pub before_across : {A : Type 0} (x y : A) (xs ys : List A) → Among x xs → Among y ys → ComesBefore x y (xs ++ ys)
before_across x y [] ys among other = absurd among
before_across x y (z ∷ xs) ys (inl here) other = inl (here, among_second y xs ys other)
before_across x y (z ∷ xs) ys (inr among) other = inr (before_across x y xs ys among other)

-- where it is so, both are in the first list, or both in the second, or one in each
pub data Stand {A : Type 0} (x y : A) (xs ys : List A) : Type 0 where
  InFirst : ComesBefore x y xs → Stand x y xs ys
  InEach : Among x xs → Among y ys → Stand x y xs ys
  InSecond : ComesBefore x y ys → Stand x y xs ys

pub stand : {A : Type 0} (x y : A) (xs ys : List A) → ComesBefore x y (xs ++ ys) → Stand x y xs ys
stand x y [] ys before = Stand.InSecond before
stand x y (z ∷ xs) ys (inl (here, among)) = elim (among_cases y xs ys among) [
  | inl inside ↦ Stand.InFirst (inl (here, inside))
  | inr behind ↦ Stand.InEach (inl here) behind
]
stand x y (z ∷ xs) ys (inr before) = elim (stand x y xs ys before) [
  | Stand.InFirst inside ↦ Stand.InFirst (inr inside)
  | Stand.InEach among other ↦ Stand.InEach (inr among) other
  | Stand.InSecond behind ↦ Stand.InSecond behind
]

-- in an image
pub before_map : {A B : Type 0} (f : A → B) (x y : A) (xs : List A) → ComesBefore x y xs → ComesBefore (f x) (f y) (map f xs)
before_map f x y [] before = absurd before
before_map f x y (z ∷ xs) (inl (here, among)) = inl (ap f here, among_map f y xs among)
before_map f x y (z ∷ xs) (inr before) = inr (before_map f x y xs before)

pub before_image : {A B : Type 0} (f : A → B) (u v : B) (xs : List A) → ComesBefore u v (map f xs)
    → (x : A) × (y : A) × ComesBefore x y xs × (f x ≡ u) × (f y ≡ v)
before_image f u v [] before = absurd before
before_image f u v (z ∷ xs) (inl (here, among)) = let m = among_image f v xs among in (z, m.0, inl (refl, m.1), here, m.2)
before_image f u v (z ∷ xs) (inr before) = let m = before_image f u v xs before in (m.0, m.1, inr m.2, m.3, m.4)

-- no two of two lists, and of an image
pub no_two_both : {A : Type 0} (R : A → A → Type 0) (xs ys : List A) → NoTwo R xs → NoTwo R ys
    → ((x y : A) → Among x xs → Among y ys → R x y → ⊥) → NoTwo R (xs ++ ys)
no_two_both {A} R [] ys first second apart = second
no_two_both {A} R (x ∷ xs) ys first second apart = (
  λ y among. elim (among_cases y xs ys among) [ inl inside ↦ first.0 y inside | inr behind ↦ apart x y (inl refl) behind ],
  no_two_both R xs ys first.1 second (λ y z among other. apart y z (inr among) other),
)

pub no_two_image : {A B : Type 0} (f : A → B) (R : A → A → Type 0) (S : B → B → Type 0) (xs : List A) → ((x y : A) → S (f x) (f y) → R x y)
    → NoTwo R xs → NoTwo S (map f xs)
no_two_image f R S [] back none = tt
no_two_image f R S (x ∷ xs) back none = (
  λ y among same. let m = among_image f y xs among in none.0 m.0 m.1 (back x m.0 (subst (S (f x)) (sym m.2) same)),
  no_two_image f R S xs back none.1,
)
