-- Tests, which come out one way or the other.
use Rattle.std.specs.Prelude.{◌&&◌, not}
use Rattle.std.proofs.Common.{◌≡◌, refl, Bool, true, false}

-- both of two tests
pub left_of : (a b : Bool) → (a && b) ≡ true → a ≡ true
left_of true b h = refl
left_of false b h = h

-- the second holds
pub right_of : (a b : Bool) → (a && b) ≡ true → b ≡ true
right_of true b h = h
right_of false b h = absurd (cc h)

-- a test whose denial holds fails
pub not_true : (a : Bool) → not a ≡ true → a ≡ false
not_true true h = absurd (cc h)
not_true false h = refl
