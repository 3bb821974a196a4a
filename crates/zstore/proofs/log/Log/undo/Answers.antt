use Rattle.std.proofs.Common.{rules}
use Rattle.zstore.proofs.log.Log.undo.Goals as goal

pub returns-then-self-clause-parts : goal.returns-then-self-clause-parts
returns-then-self-clause-parts c = search rules
