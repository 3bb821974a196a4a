use Rattle.std.proofs.Common.{true, false, not, refl}
use Rattle.zjute.specs.declared.event.EventKind.TheVariants.{NodeDeleted, NodeDataChanged}
use Rattle.zwatches.specs.declared.kind.Kind.TheVariants.{Data, EachData}
use Rattle.zwatches.specs.Watches.{watch}
use Rattle.zwatches.specs.Events.{ends}
use Rattle.zwatches.specs.Samples.{at_a, at_a_b, lasting_rows}
use Rattle.zwatches.proofs.Worked.{reported_here, kept_here}
use Rattle.zwatches.proofs.rows.who_stays.Goals as goal

pub returns : goal.returns
returns c = record {
  once = refl;
  persistent = refl;
  children = refl;
  recursive = refl;
  gone = kept_here lasting_rows (λ w. not (ends NodeDataChanged at_a w)) (watch at_a Data 1) false refl;
  stays = kept_here lasting_rows (λ w. not (ends NodeDataChanged at_a w)) (watch at_a EachData 1) true refl;
  reported = reported_here lasting_rows NodeDeleted at_a 1 true refl;
  below = reported_here lasting_rows NodeDeleted at_a_b 2 true refl;
  other = reported_here lasting_rows NodeDeleted at_a_b 1 false refl;
}
