-- How many items of a list pass a test, where one is written and where none does.
use Rattle.std.proofs.Common.{◌≡◌, ℕ, ◌+◌, ◌<◌, ◌≤◌, zero, suc, Bool, true, false, List, [], ◌∷◌, length, get_or, set, refl, arith}
use Rattle.zworld.specs.links.support.Counts.{share, passing}

-- the share of one is one at most
share_le : (b : Bool) → share b ≤ 1
share_le false = omega arith
share_le true = omega arith

module _ {X : Type 0} (test : X → Bool) where
  -- one that is written
  pub passing-set : (xs : List X) (i : ℕ) (x d : X) → i < length xs
      → passing test (set xs i x) + share (test (get_or xs i d)) ≡ passing test xs + share (test x)
  passing-set [] i x d inside = absurd (omega (arith, inside))
  passing-set (y ∷ ys) zero x d inside = omega arith
  passing-set (y ∷ ys) (suc i) x d inside = omega (arith, passing-set ys i x d (omega (arith, inside)))

  -- no more pass than there are
  pub passing_le : (xs : List X) → passing test xs ≤ length xs
  passing_le [] = omega arith
  passing_le (x ∷ xs) = omega (arith, share_le (test x), passing_le xs)

  -- one of them is counted
  pub passing_at : (xs : List X) (i : ℕ) (d : X) → i < length xs → share (test (get_or xs i d)) ≤ passing test xs
  passing_at [] i d inside = absurd (omega (arith, inside))
  passing_at (x ∷ xs) zero d inside = omega arith
  passing_at (x ∷ xs) (suc i) d inside = omega (arith, passing_at xs i d (omega (arith, inside)))

  -- where none passes each fails
  pub fails_at : (xs : List X) (i : ℕ) (d : X) → test d ≡ false → passing test xs ≡ 0 → test (get_or xs i d) ≡ false
  fails_at [] i d outside none = outside
  fails_at (x ∷ xs) zero d outside none = no_share (test x) (omega (arith, none))
    where
      no_share : (b : Bool) → share b ≡ 0 → b ≡ false
      no_share false is = refl
      no_share true is = absurd (omega (arith, is))
  fails_at (x ∷ xs) (suc i) d outside none = fails_at xs i d outside (omega (arith, none))
