use Rattle.std.proofs.Common.{true≢false, sym}
use Rattle.zwatches.specs.declared.kind.Kind.TheVariants.{Data}
use Rattle.zwatches.specs.Watches.{watch}
use Rattle.zwatches.specs.Samples.{at_a, at_b, five_of_all, some_rows, two_each}
use Rattle.zwatches.proofs.Kept.{full_here, share_here}
use Rattle.zwatches.proofs.rows.limits.Goals as goal

pub returns : goal.returns
returns c = record {
  two = share_here some_rows 1;
  one = share_here some_rows 2;
  none = share_here some_rows 5;
  most = full_here five_of_all some_rows (watch at_b Data 5);
  each = full_here two_each some_rows (watch at_b Data 1);
  room = full_here two_each some_rows (watch at_b Data 2);
  again = full_here two_each some_rows (watch at_a Data 1);
  full = λ is. true≢false (sym is);
  memory = λ is. true≢false is;
}
