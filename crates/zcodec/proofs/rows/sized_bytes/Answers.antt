use Rattle.std.proofs.Common.{refl, arith}
use Rattle.zcodec.specs.Forms.{number_at}
use Rattle.zcodec.proofs.rows.sized_bytes.Goals as goal

pub returns : goal.returns
unfolding number_at
returns c = record {
  spelled = refl;
  read = refl;
  long = refl;
  short = refl;
  too_many = λ fits. omega (arith, fits.0);
}
