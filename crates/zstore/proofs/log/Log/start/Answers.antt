use Rattle.std.proofs.Common.{rules}
use Rattle.zstore.proofs.log.Log.start.Goals as goal

pub returns-clause-ok : goal.returns-clause-ok
returns-clause-ok c = search rules
