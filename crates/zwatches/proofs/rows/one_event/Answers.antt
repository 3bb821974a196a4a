use Rattle.std.proofs.Common.{true, false, not, refl}
use Rattle.zjute.specs.declared.event.EventKind.TheVariants.{NodeCreated, NodeDeleted, NodeDataChanged}
use Rattle.zwatches.specs.declared.kind.Kind.TheVariants.{Data, Children}
use Rattle.zwatches.specs.Watches.{watch}
use Rattle.zwatches.specs.Events.{ends}
use Rattle.zwatches.specs.Samples.{at_a, at_a_b, some_rows}
use Rattle.zwatches.proofs.Worked.{reported_here, kept_here}
use Rattle.zwatches.proofs.rows.one_event.Goals as goal

pub returns : goal.returns
returns c = record {
  reported_of_both = reported_here some_rows NodeDeleted at_a 1 true refl;
  reported_of_one = reported_here some_rows NodeDeleted at_a 2 true refl;
  above = reported_here some_rows NodeDeleted at_a 3 false refl;
  missing = reported_here some_rows NodeCreated at_a_b 4 true refl;
  not_reported = reported_here some_rows NodeDataChanged at_a 2 false refl;
  gone = kept_here some_rows (λ w. not (ends NodeDataChanged at_a w)) (watch at_a Data 1) false refl;
  stays = kept_here some_rows (λ w. not (ends NodeDataChanged at_a w)) (watch at_a Children 1) true refl;
}
