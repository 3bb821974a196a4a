use Rattle.std.proofs.Common.{refl}
use Rattle.zwatches.proofs.rows.children_changed.Goals as goal

pub returns : goal.returns
returns c = record {
  children = refl;
  node = refl;
  missing = refl;
  below = refl;
}
