use Rattle.std.proofs.Common.{refl}
use Rattle.zwatches.proofs.rows.created.Goals as goal

pub returns : goal.returns
returns c = record {
  missing = refl;
  node = refl;
  children = refl;
  above = refl;
}
