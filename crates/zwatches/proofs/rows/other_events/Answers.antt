use Rattle.std.proofs.Common.{refl}
use Rattle.zwatches.proofs.rows.other_events.Goals as goal

pub returns : goal.returns
returns c = record {
  none = refl;
  of_data = refl;
  of_children = refl;
  persistent = refl;
}
