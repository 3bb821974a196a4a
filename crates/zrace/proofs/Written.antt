-- What a write came to, by whether it failed.
use Rattle.std.proofs.Common.{◌≡◌, true, false, true≢false, sym, Result, Ok, Err}
use Rattle.std.specs.Prelude.{OnOk, OnErr, is_err}

pub on-failure : {T E Q : Type 0} (r : Result T E) → is_err r ≡ true → OnErr r Q → Q
on-failure (Ok x) failed q = absurd (true≢false (sym failed))
on-failure (Err e) failed q = q

pub on-success : {T E Q : Type 0} (r : Result T E) → is_err r ≡ false → OnOk r Q → Q
on-success (Ok x) passed q = q
on-success (Err e) passed q = absurd (true≢false passed)
