use Rattle.std.proofs.Common.{refl}
use Rattle.zwatches.proofs.rows.persistent.Goals as goal

pub returns : goal.returns
returns c = record {
  created = refl;
  changed = refl;
  deleted = refl;
  not_children = refl;
  children = refl;
  gone = refl;
  not_data = refl;
  below = refl;
  above = refl;
}
