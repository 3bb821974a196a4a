use Rattle.std.proofs.Common.{refl}
use Rattle.zops.proofs.machine.Machine.ask.Goals as goal

pub returns-then-self-clause-broken : goal.returns-then-self-clause-broken
returns-then-self-clause-broken c = λ _. refl

pub returns-then-self-clause-lawful : goal.returns-then-self-clause-lawful
returns-then-self-clause-lawful c = tt
