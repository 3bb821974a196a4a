-- What is among a list, and what holds of each element of a list.
use Rattle.std.proofs.Common.{◌≡◌, List, [], ◌∷◌, ◌++◌, map, refl, ap, inl, inr, subst}
use Rattle.std.specs.List.{AllByRecursion}
use Rattle.zcalls.specs.Lists.{Among}

-- what is among a list has what each of its elements has
pub each_among : {A : Type 0} (P : A → Type 0) (xs : List A) → AllByRecursion P xs → (x : A) → Among x xs → P x
each_among P [] all x among = absurd among
each_among P (y ∷ ys) all x (inl is) = subst P is all.0
each_among P (y ∷ ys) all x (inr among) = each_among P ys all.1 x among

-- what is among a list is among its image, and among each extension of it
pub among_map : {A B : Type 0} (f : A → B) (x : A) (xs : List A) → Among x xs → Among (f x) (map f xs)
among_map f x (y ∷ ys) (inl e) = inl (ap f e)
among_map f x (y ∷ ys) (inr among) = inr (among_map f x ys among)
among_map f x [] among = absurd among

pub among_first : {A : Type 0} (x : A) (xs ys : List A) → Among x xs → Among x (xs ++ ys)
among_first x (z ∷ xs) ys (inl e) = inl e
among_first x (z ∷ xs) ys (inr among) = inr (among_first x xs ys among)
among_first x [] ys among = absurd among

pub among_second : {A : Type 0} (x : A) (xs ys : List A) → Among x ys → Among x (xs ++ ys)
among_second x [] ys among = among
among_second x (z ∷ xs) ys among = inr (among_second x xs ys among)

-- what is among an image is that of something
pub among_image : {A B : Type 0} (f : A → B) (y : B) (xs : List A) → Among y (map f xs) → (x : A) × Among x xs × (f x ≡ y)
among_image f y [] among = absurd among
among_image f y (x ∷ xs) (inl e) = (x, inl refl, e)
among_image f y (x ∷ xs) (inr among) = let m = among_image f y xs among in (m.0, inr m.1, m.2)
