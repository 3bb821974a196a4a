use Rattle.std.proofs.Common.{rules, sym, subst}
use Rattle.zstore.specs.StoreView.{StoreView}
use Rattle.zops.specs.support.Ready.{IsSound}
use Rattle.zops.proofs.machine.Machine.copy.Goals as goal

pub invariant_of-result : goal.invariant_of-result
invariant_of-result c =
    let sound = c.self.invariant in
    subst (λ (s : StoreView). IsSound s c.self.inside.applied c.self.inside.is_broken) (sym c.in-Ok.ensures)
    (record { bounded = sound.bounded; applied_few = sound.applied_few; given_few = sound.given_few; dated = sound.dated })

pub returns-clause-same : goal.returns-clause-same
returns-clause-same c = search rules
