use Rattle.std.proofs.Common.{refl}
use Rattle.zprotocol.specs.master.Table.{order_fault}
use Rattle.zthreads.proofs.worked.orders_have_outcomes.Goals as goal

pub returns : goal.returns
unfolding order_fault
returns c = record {
  joins = refl;
  used = refl;
  leaves = refl;
  stranger = refl;
  last = refl;
}
