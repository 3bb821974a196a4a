use Rattle.std.proofs.Common.{rules}
use Rattle.zstore.proofs.store.Store.stat.Goals as goal

pub returns-clause-stat : goal.returns-clause-stat
returns-clause-stat c = search rules
