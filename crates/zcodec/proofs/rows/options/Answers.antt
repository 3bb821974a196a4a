use Rattle.std.proofs.Common.{refl}
use Rattle.zcodec.specs.Forms.{number_at}
use Rattle.zcodec.proofs.rows.options.Goals as goal

pub returns : goal.returns
unfolding number_at
returns c = record {
  none = refl;
  spelled = refl;
  read_none = refl;
  read = refl;
  no_tag = refl;
}
