use Rattle.std.proofs.Common.{refl, arith}
use Rattle.zcodec.specs.Forms.{number_at}
use Rattle.zcodec.proofs.rows.pairs.Goals as goal

pub returns : goal.returns
unfolding number_at
returns c = record {
  spelled = refl;
  read = refl;
  first_fault = refl;
  second_fault = refl;
  too_great = λ fits. omega (arith, fits.0);
}
