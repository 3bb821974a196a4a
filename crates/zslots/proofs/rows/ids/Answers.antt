use Rattle.std.proofs.Common.{refl}
use Rattle.zslots.proofs.rows.ids.Goals as goal

pub returns : goal.returns
returns c = record { one_slot = refl; run = refl }
