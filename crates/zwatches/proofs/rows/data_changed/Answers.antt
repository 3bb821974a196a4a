use Rattle.std.proofs.Common.{refl}
use Rattle.zwatches.proofs.rows.data_changed.Goals as goal

pub returns : goal.returns
returns c = record {
  node = refl;
  missing = refl;
  children = refl;
  below = refl;
}
