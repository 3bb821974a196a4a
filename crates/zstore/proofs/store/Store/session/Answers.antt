use Rattle.std.proofs.Common.{rules}
use Rattle.zstore.proofs.store.Store.session.Goals as goal

pub returns : goal.returns
returns c = search rules
