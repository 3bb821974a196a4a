use Rattle.std.proofs.Common.{refl, arith}
use Rattle.zcodec.specs.Forms.{number_at}
use Rattle.zcodec.proofs.rows.numbers.Goals as goal

pub returns : goal.returns
unfolding number_at
returns c = record {
  spelled = refl;
  read = refl;
  byte = refl;
  short = refl;
  too_great = λ less. omega (arith, less);
}
