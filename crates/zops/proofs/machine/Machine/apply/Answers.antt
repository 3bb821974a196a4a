use Rattle.std.proofs.Common.{◌<◌, rules, refl, sym, subst, arith}
use Rattle.zops.specs.declared.limits.TheConstants.{MAX_APPLIED}
use Rattle.zops.specs.Machine.{MachineView, entry_result}
use Rattle.zops.proofs.Dated.{entered-dated}
use Rattle.zops.proofs.machine.Machine.apply.Goals as goal

pub invariant_of-self : goal.invariant_of-self
invariant_of-self c = record {
  bounded = c.enter.ensures.left.bounded;
  applied_few =
      let few = subst (λ (m : MachineView). m.state.applied < MAX_APPLIED) (sym c.self.view_is) c.requires in
      omega (arith, few);
  given_few = omega (arith, c.enter.ensures.left.given, c.self.invariant.given_few);
  dated = λ whole.
      entered-dated c.args.entry.now c.self.inside.store c.enter.new.store c.self.inside.kept c.enter.new.kept
      c.in-Ok.reply c.in-Ok.ensures.done (c.self.invariant.dated c.if-self.false);
}

pub invariant_of-self-in-Err : goal.invariant_of-self-in-Err
invariant_of-self-in-Err c = search rules

pub returns-in-Ok-clause-ok : goal.returns-in-Ok-clause-ok
unfolding entry_result
returns-in-Ok-clause-ok c = search rules

pub returns-in-Err-clause-broken : goal.returns-in-Err-clause-broken
returns-in-Err-clause-broken c = refl
