use Rattle.std.proofs.Common.{refl}
use Rattle.zcodec.specs.Forms.{number_at}
use Rattle.zcodec.proofs.rows.shapes.Goals as goal

pub returns : goal.returns
unfolding number_at
returns c = record { pair = refl; left = refl; right = refl; neither = refl }
