use Rattle.std.proofs.Common.{rules}
use Rattle.zstore.proofs.store.Store.find.Goals as goal

pub returns-clause-found : goal.returns-clause-found
returns-clause-found c = search rules
