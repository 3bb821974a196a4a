use Rattle.std.proofs.Common.{refl, arith}
use Rattle.zcodec.specs.Forms.{number_at}
use Rattle.zcodec.proofs.rows.kinds.Goals as goal

pub returns : goal.returns
unfolding number_at
returns c = record {
  word = refl;
  text = refl;
  read_word = refl;
  read_text = refl;
  unknown = refl;
  too_many = λ fits. omega (arith, fits.1.0);
}
