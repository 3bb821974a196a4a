use Rattle.std.proofs.Common.{refl}
use Rattle.zcodec.specs.Forms.{number_at}
use Rattle.zcodec.proofs.rows.wholes.Goals as goal

pub returns : goal.returns
unfolding number_at
returns c = record {
  all = refl;
  trailing = refl;
  short = refl;
}
