use Rattle.std.proofs.Common.{refl, arith}
use Rattle.zcodec.specs.Forms.{number_at}
use Rattle.zcodec.proofs.rows.lists.Goals as goal

pub returns : goal.returns
unfolding number_at
returns c = record {
  spelled = refl;
  read = refl;
  short = refl;
  long = refl;
  too_many = λ fits. omega (arith, fits.0);
  too_great = λ fits. omega (arith, fits.1.1.0);
  none = refl;
  read_none = refl;
  long_or_null = refl;
  read_one = refl;
}
