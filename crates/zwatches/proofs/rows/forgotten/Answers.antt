use Rattle.std.proofs.Common.{true, false, not, eqb, refl}
use Rattle.zwatches.specs.declared.kind.Kind.TheVariants.{Children}
use Rattle.zwatches.specs.declared.watch.Watch.{Watch}
use Rattle.zwatches.specs.Watches.{watch}
use Rattle.zwatches.specs.Samples.{at_a, some_rows}
use Rattle.zwatches.proofs.Worked.{kept_here}
use Rattle.zwatches.proofs.rows.forgotten.Goals as goal

pub returns : goal.returns
returns c = record {
  gone = kept_here some_rows (λ (w : Watch). not (eqb w.connection 1)) (watch at_a Children 1) false refl;
  stays = kept_here some_rows (λ (w : Watch). not (eqb w.connection 1)) (watch at_a Children 2) true refl;
}
