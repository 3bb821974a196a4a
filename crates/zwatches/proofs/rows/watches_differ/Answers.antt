use Rattle.std.proofs.Common.{refl}
use Rattle.zwatches.proofs.rows.watches_differ.Goals as goal

pub returns : goal.returns
returns c = record {
  path = refl;
  deeper = refl;
  missing = refl;
  children = refl;
  connection = refl;
}
