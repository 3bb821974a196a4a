use Rattle.std.proofs.Common.{rules}
use Rattle.zstore.proofs.store.Store.node.Goals as goal

pub returns-clause-node : goal.returns-clause-node
returns-clause-node c = search rules
