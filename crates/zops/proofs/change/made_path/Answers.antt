use Rattle.std.proofs.Common.{rules}
use Rattle.zops.proofs.change.made_path.Goals as goal

pub returns-in-Ok-clause-allowed : goal.returns-in-Ok-clause-allowed
returns-in-Ok-clause-allowed c = search rules
