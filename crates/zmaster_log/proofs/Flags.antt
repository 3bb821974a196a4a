-- Both of two tests.
use Rattle.std.proofs.Common.{◌≡◌, Bool, true, false, ◌&&◌, refl, sym}
use mathlib.Core.Bool.{true≢false}

pub left : (a b : Bool) → (a && b) ≡ true → a ≡ true
left true b is = refl
left false b is = absurd (true≢false (sym is))

pub right : (a b : Bool) → (a && b) ≡ true → b ≡ true
right true b is = is
right false b is = absurd (true≢false (sym is))

pub together : (a b : Bool) → a ≡ true → b ≡ true → (a && b) ≡ true
together true b is also = also
together false b is also = absurd (true≢false (sym is))
