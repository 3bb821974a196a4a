-- What is among a list: of two lists one after the other, of a beginning, of a rest, and with one more in the middle.
use Rattle.std.proofs.Common.{◌≡◌, ◌⊎◌, ℕ, zero, suc, List, [], ◌∷◌, ◌++◌, length, take, drop, refl, inl, inr}
use Rattle.zcalls.specs.Lists.{Among}
use Rattle.zcalls.proofs.Among.{among_cases}

-- what is among a list is among a longer one
pub among_left : {A : Type 0} (x : A) (xs ys : List A) → Among x xs → Among x (xs ++ ys)
among_left x [] ys h = absurd h
among_left x (z ∷ xs) ys (inl e) = inl e
among_left x (z ∷ xs) ys (inr h) = inr (among_left x xs ys h)

-- whichever end it is longer at
pub among_right : {A : Type 0} (x : A) (xs ys : List A) → Among x ys → Among x (xs ++ ys)
among_right x [] ys h = h
among_right x (z ∷ xs) ys h = inr (among_right x xs ys h)

-- what is among a list with one more at its end was there, or is that
pub among_last : {A : Type 0} (x : A) (xs : List A) (y : A) → Among x (xs ++ y ∷ []) → Among x xs ⊎ (y ≡ x)
among_last x xs y h = elim (among_cases x xs (y ∷ []) h) [ inl a ↦ inl a | inr b ↦ elim b [ inl e ↦ inr e | inr f ↦ absurd f ] ]

-- what is among a list is there with one more in the middle
pub among_insert : {A : Type 0} (x y : A) (xs ys : List A) → Among x (xs ++ ys) → Among x (xs ++ y ∷ ys)
among_insert x y [] ys h = inr h
among_insert x y (z ∷ xs) ys (inl e) = inl e
among_insert x y (z ∷ xs) ys (inr h) = inr (among_insert x y xs ys h)

-- and so is that one
pub among_mid : {A : Type 0} (y : A) (xs ys : List A) → Among y (xs ++ y ∷ ys)
among_mid y [] ys = inl refl
among_mid y (z ∷ xs) ys = inr (among_mid y xs ys)

-- nothing else is
pub among_inserted : {A : Type 0} (x y : A) (xs ys : List A) → Among x (xs ++ y ∷ ys) → (y ≡ x) ⊎ Among x (xs ++ ys)
among_inserted x y [] ys h = h
among_inserted x y (z ∷ xs) ys (inl e) = inr (inl e)
among_inserted x y (z ∷ xs) ys (inr h) = elim (among_inserted x y xs ys h) [ inl e ↦ inl e | inr m ↦ inr (inr m) ]

-- what is among the front of a list
pub among_take : {A : Type 0} (n : ℕ) (xs : List A) (x : A) → Among x (take n xs) → Among x xs
among_take zero xs x a = absurd a
among_take (suc n) [] x a = absurd a
among_take (suc n) (y ∷ ys) x (inl e) = inl e
among_take (suc n) (y ∷ ys) x (inr a) = inr (among_take n ys x a)

-- what is among the rest of a list is among it
pub among_drop : {A : Type 0} (n : ℕ) (xs : List A) (x : A) → Among x (drop n xs) → Among x xs
among_drop zero xs x a = a
among_drop (suc n) [] x a = a
among_drop (suc n) (y ∷ ys) x a = inr (among_drop n ys x a)

-- the beginning of its own length is the whole list
pub among_whole : {A : Type 0} (xs : List A) (x : A) → Among x xs → Among x (take (length xs) xs)
among_whole [] x a = absurd a
among_whole (y ∷ ys) x a = go (length ys) refl a (among_whole ys x)
  where
    go : (n : ℕ) → length ys ≡ n → Among x (y ∷ ys) → (Among x ys → Among x (take (length ys) ys)) → Among x (take (length (y ∷ ys)) (y ∷ ys))
    go n e (inl f) more = inl f
    go n e (inr b) more = inr (more b)
