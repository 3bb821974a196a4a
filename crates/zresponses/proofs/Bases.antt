-- Zxids that are told from a base, and those that clients name.
use Rattle.std.proofs.Common.{◌≡◌, ◌∙◌, ◌+◌, ◌<◌, ◌^◌, ℕ, sym, ap, arith}
use Rattle.std.specs.Prelude.{ℤ, pos, negsuc, int_lt, FitsSigned}
use Rattle.std.specs.Int.{w64}
use Rattle.std.proofs.lemmas.Grind.{common_steps}
use Rattle.zresponses.specs.Laws.{ZxidsAreToldFromTheBase}
use Rattle.zresponses.specs.Naming.{named}
use Rattle.zresponses.specs.Stats.{long_of}

-- a number of 63 bits is its own
pub long_is : (n : ℕ) → n < 2 ^ 63 → long_of n ≡ pos n
long_is n fits = grind (arith, common_steps)

-- a number below a sum, less than one summand
order_of : (base zxid : ℕ) (seen : ℤ) → base + zxid < 2 ^ 63 → FitsSigned w64 seen
    → int_lt (named base seen) (pos zxid) ≡ int_lt seen (pos (base + zxid))
order_of base zxid (pos n) small fits = rw (long_is base (omega arith)) (grind (arith, common_steps))
order_of base zxid (negsuc n) small fits = rw (long_is base (omega arith)) (grind (arith, common_steps))

pub zxids_are_told_from_the_base : ZxidsAreToldFromTheBase
zxids_are_told_from_the_base = record {
  value = λ base zxid small. long_is (base + zxid) small;
  order = λ base zxid seen small fits.
      order_of base zxid seen small fits ∙ ap (int_lt seen) (sym (long_is (base + zxid) small));
}
