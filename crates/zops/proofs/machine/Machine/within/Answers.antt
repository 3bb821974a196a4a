use Rattle.std.proofs.Common.{sym, subst, arith}
use Rattle.zcalls.specs.Bounds.{IsBounded}
use Rattle.zcalls.proofs.Bounds.{opening_bounded}
use Rattle.zops.specs.Restored.{AllDated}
use Rattle.zops.proofs.Dated.{opening-dated}
use Rattle.zops.proofs.machine.Machine.within.Goals as goal

pub invariant_of-result : goal.invariant_of-result
invariant_of-result c = record {
  bounded = subst IsBounded (sym c.in_ok-store.ensures.opening) (opening_bounded c.args.limits);
  applied_few = omega arith;
  given_few = omega (arith, c.in_ok-store.ensures.given);
  dated = λ whole. subst AllDated (sym c.in_ok-store.ensures.opening) (opening-dated c.args.limits);
}

pub returns-clause-bounded : goal.returns-clause-bounded
returns-clause-bounded c = subst IsBounded (sym c.in_ok-store.ensures.opening) (opening_bounded c.args.limits)
