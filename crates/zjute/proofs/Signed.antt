-- `int` and `long` are forms.
use Rattle.std.proofs.Common.{◌≡◌, ℕ, ◌^◌, ◌<◌, ℤ, Fits, Ok, ap, subst, arith}
use Rattle.std.specs.Int.{Width, w32, w64, byte_len, cast_unsigned, cast_signed}
use Rattle.std.specs.Int.RustNames.{FitsSigned}
use Rattle.std.proofs.Math.Facts.{sfits_to_z, of_z-to_z, Fits-of_lt, Fits-of_z}
use Rattle.std.proofs.lemmas.Int.{to_z-of_z}
use Rattle.zcodec.specs.Forms.{number}
use Rattle.zcodec.specs.Laws.{IsForm}
use Rattle.zcodec.proofs.Bytes.{done, ok_is}
use Rattle.zcodec.proofs.Numbers.{is_u32, is_u64}
use Rattle.zcodec.proofs.Parts.{is_made}
use Rattle.zjute.specs.Jute.{signed, int, long}

is_signed : (w : Width) → IsForm (number w) → ((n : ℕ) → n < 256 ^ byte_len w → Fits w n) → ((z : ℤ) → FitsSigned w z → cast_unsigned w z < 256 ^ byte_len w)
    → IsForm (signed w)
is_signed w is below bound = is_made (number w) (cast_unsigned w) (λ n. Ok (cast_signed w n)) (FitsSigned w) is
    (λ n z lt e.
    let same = ok_is (cast_signed w n) z e in
    (subst (λ (x : ℤ). cast_unsigned w x ≡ n) same (of_z-to_z {w = w} {n = n} (below n lt)), subst (FitsSigned w) same (sfits_to_z {w = w} {n = n} (below n lt))))
    (λ z fits. (ap done (to_z-of_z w z fits), bound z fits))

pub is_int : IsForm int
unfolding int
is_int = is_signed w32 is_u32 (λ n lt. Fits-of_lt {w = w32} {n = n} lt) (λ z fits. let below = Fits-of_z {w = w32} {z = z} fits in omega (arith, below))

pub is_long : IsForm long
unfolding long
is_long = is_signed w64 is_u64 (λ n lt. Fits-of_lt {w = w64} {n = n} lt) (λ z fits. let below = Fits-of_z {w = w64} {z = z} fits in omega (arith, below))
