use Rattle.std.proofs.Common.{refl}
use Rattle.zcodec.specs.Forms.{number_at}
use Rattle.zcodec.proofs.rows.flags.Goals as goal

pub returns : goal.returns
unfolding number_at
returns c = record {
  set = refl;
  unset = refl;
  read = refl;
  read_unset = refl;
  two = refl;
  short = refl;
}
