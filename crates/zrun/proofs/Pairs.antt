-- Lists of which each element goes with that of the other at its position.
use Rattle.std.proofs.Common.{◌≡◌, ℕ, zero, suc, List, [], ◌∷◌, ◌++◌, length, refl, sym, ap, subst, arith}
use mathlib.Core.Option.{some, some-injective, some-ne-none}
use lib.ListN.{get_elem?}
use Rattle.zrun.specs.Runs.{Pairs}

module _ {X Y : Type 0} (R : X → Y → Type 0) where
  pub pairs_push : (xs : List X) (ys : List Y) (x : X) (y : Y) → Pairs R xs ys → R x y → Pairs R (xs ++ x ∷ []) (ys ++ y ∷ [])
  pairs_push [] [] x y all one = (one, tt)
  pairs_push [] (b ∷ ys) x y all one = absurd all
  pairs_push (a ∷ xs) [] x y all one = absurd all
  pairs_push (a ∷ xs) (b ∷ ys) x y all one = (all.0, pairs_push xs ys x y all.1 one)

  pub pairs_both : (xs : List X) (ys : List Y) (xs' : List X) (ys' : List Y) → Pairs R xs ys → Pairs R xs' ys' → Pairs R (xs ++ xs') (ys ++ ys')
  pairs_both [] [] xs' ys' one two = two
  pairs_both [] (b ∷ ys) xs' ys' one two = absurd one
  pairs_both (a ∷ xs) [] xs' ys' one two = absurd one
  pairs_both (a ∷ xs) (b ∷ ys) xs' ys' one two = (one.0, pairs_both xs ys xs' ys' one.1 two)

  pub pairs_count : (xs : List X) (ys : List Y) → Pairs R xs ys → length ys ≡ length xs
  pairs_count [] [] all = refl
  pairs_count [] (b ∷ ys) all = absurd all
  pairs_count (a ∷ xs) [] all = absurd all
  pairs_count (a ∷ xs) (b ∷ ys) all = ap suc (pairs_count xs ys all.1)

  -- those at one position
  pub pairs_at : (xs : List X) (ys : List Y) (i : ℕ) (x : X) (y : Y) → Pairs R xs ys → get_elem? xs i ≡ some x → get_elem? ys i ≡ some y → R x y
  pairs_at [] ys i x y all at at' = absurd (some-ne-none x (sym at))
  pairs_at (a ∷ xs) [] i x y all at at' = absurd all
  pairs_at (a ∷ xs) (b ∷ ys) zero x y all at at' =
      subst (λ (w : X × Y). R w.0 w.1) (λ k. (some-injective a x at k, some-injective b y at' k)) all.0
  pairs_at (a ∷ xs) (b ∷ ys) (suc i) x y all at at' = pairs_at xs ys i x y all.1 at at'

  pub pairs_from : (xs : List X) (ys : List Y) → length ys ≡ length xs
      → ((i : ℕ) (x : X) (y : Y) → get_elem? xs i ≡ some x → get_elem? ys i ≡ some y → R x y) → Pairs R xs ys
  pairs_from [] [] same each = tt
  pairs_from [] (b ∷ ys) same each = absurd (omega (arith, same))
  pairs_from (a ∷ xs) [] same each = absurd (omega (arith, same))
  pairs_from (a ∷ xs) (b ∷ ys) same each =
      (each 0 a b refl refl, pairs_from xs ys (omega (arith, same)) (λ i x y at at'. each (suc i) x y at at'))
