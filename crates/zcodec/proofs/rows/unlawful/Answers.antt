use Rattle.std.proofs.Common.{◌≡◌, ℕ, zero, suc, List, [], ◌∷◌, refl, ap, arith}
use Rattle.zcodec.specs.Laws.{IsBytes}
use Rattle.zcodec.proofs.Bytes.{ok_is}
use Rattle.zcodec.proofs.rows.unlawful.Goals as goal

absurd_nil : (b : ℕ) (bs : List ℕ) → b ∷ bs ≡ [] → ⊥
absurd_nil b bs e = absurd cc

seven : IsBytes (7 ∷ [])
seven zero = omega arith
seven (suc i) = omega arith

pub returns : goal.returns
returns c = record {
  skips = λ is. absurd_nil 7 [] (is.takes (7 ∷ []) (tt, []) seven refl).0;
  forgets = λ is. omega (arith, ap (λ (p : ℕ × List ℕ). p.0) (ok_is (0, []) (5, []) (is.again 5 [] tt)));
  byte = λ are. omega (arith, are 0);
  sized = λ less. omega (arith, less);
  buffer = λ less. omega (arith, less);
}
