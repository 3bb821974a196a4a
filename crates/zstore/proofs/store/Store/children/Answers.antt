use Rattle.std.proofs.Common.{rules}
use Rattle.zstore.proofs.store.Store.children.Goals as goal

pub returns : goal.returns
returns c = search rules
