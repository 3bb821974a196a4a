-- What is there, or isn't.
use Rattle.std.proofs.Common.{◌≡◌, Option, Some, None, is_some, false, refl}
use mathlib.Core.Bool.{true≢false}

pub none_if : {A : Type 0} (o : Option A) → is_some o ≡ false → o ≡ None
none_if None e = refl
none_if (Some x) e = absurd (true≢false e)
