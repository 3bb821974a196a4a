use Rattle.std.proofs.Common.{refl}
use Rattle.zwatches.proofs.rows.deleted.Goals as goal

pub returns : goal.returns
returns c = record {
  node = refl;
  children = refl;
  missing = refl;
  above = refl;
}
