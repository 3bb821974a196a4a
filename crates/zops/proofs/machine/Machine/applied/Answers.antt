use Rattle.std.proofs.Common.{rules}
use Rattle.zops.proofs.machine.Machine.applied.Goals as goal

pub returns-clause-applied : goal.returns-clause-applied
returns-clause-applied c = search rules
