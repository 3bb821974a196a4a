use Rattle.std.proofs.Common.{true, false, refl}
use Rattle.zjute.specs.declared.event.EventKind.TheVariants.{NodeDeleted}
use Rattle.zwatches.specs.Samples.{at_a, at_a_b, at_a_b_c, at_b, some_rows, lasting_rows}
use Rattle.zwatches.proofs.Worked.{awaited_here}
use Rattle.zwatches.proofs.rows.what_is_awaited.Goals as goal

pub returns : goal.returns
returns c = record {
  node = awaited_here some_rows NodeDeleted at_a true refl;
  missing = awaited_here some_rows NodeDeleted at_a_b false refl;
  below = awaited_here lasting_rows NodeDeleted at_a_b_c true refl;
  sibling = awaited_here lasting_rows NodeDeleted at_b false refl;
}
