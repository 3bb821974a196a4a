use Rattle.std.proofs.Common.{rules}
use Rattle.zstore.proofs.store.Store.data.Goals as goal

pub returns-clause-bytes : goal.returns-clause-bytes
returns-clause-bytes c = search rules
