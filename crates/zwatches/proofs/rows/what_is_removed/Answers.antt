use Rattle.std.proofs.Common.{true, false, not, refl}
use Rattle.zjute.specs.declared.watch_type.WatchType.TheVariants as type
use Rattle.zwatches.specs.declared.kind.Kind.TheVariants.{EachData, EachChildren, Recursive}
use Rattle.zwatches.specs.Watches.{watch}
use Rattle.zwatches.specs.Removal.{is_meant}
use Rattle.zwatches.specs.Samples.{at_a, lasting_rows}
use Rattle.zwatches.proofs.Worked.{kept_here, meant_here}
use Rattle.zwatches.proofs.rows.what_is_removed.Goals as goal

pub returns : goal.returns
returns c = record {
  children = refl;
  not_data = refl;
  of_data = refl;
  recursive = refl;
  any = refl;
  own = refl;
  other = refl;
  below = refl;
  found = meant_here lasting_rows 2 type.Data at_a true refl;
  none = meant_here lasting_rows 3 type.Any at_a false refl;
  gone = kept_here lasting_rows (λ w. not (is_meant 2 type.Any at_a w)) (watch at_a Recursive 2) false refl;
  half = kept_here lasting_rows (λ w. not (is_meant 1 type.Data at_a w)) (watch at_a EachChildren 1) true refl;
  stays = kept_here lasting_rows (λ w. not (is_meant 2 type.Any at_a w)) (watch at_a EachData 1) true refl;
}
