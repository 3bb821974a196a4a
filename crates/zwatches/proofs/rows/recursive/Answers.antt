use Rattle.std.proofs.Common.{refl}
use Rattle.zwatches.proofs.rows.recursive.Goals as goal

pub returns : goal.returns
returns c = record {
  positions = refl;
  own = refl;
  child = refl;
  below = refl;
  root = refl;
  sibling = refl;
  name = refl;
  parent = refl;
  children = refl;
}
