-- Two tests that pass together.
use Rattle.std.proofs.Common.{◌≡◌, Bool, true, false, refl, sym}
use mathlib.Core.Bool.{true≢false}
use Rattle.std.specs.Prelude.{◌&&◌}

-- both tests pass
pub both : (b c : Bool) → (b && c) ≡ true → (b ≡ true) × (c ≡ true)
both true true passed = (refl, refl)
both true false passed = absurd (true≢false (sym passed))
both false c passed = absurd (true≢false (sym passed))
