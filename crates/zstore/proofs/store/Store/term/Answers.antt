use Rattle.std.proofs.Common.{rules}
use Rattle.zstore.proofs.store.Store.term.Goals as goal

pub returns-clause-term : goal.returns-clause-term
returns-clause-term c = search rules
