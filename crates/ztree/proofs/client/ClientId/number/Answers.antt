use Rattle.std.proofs.Common.{rules}
use Rattle.ztree.proofs.client.ClientId.number.Goals as goal

pub returns-clause-same : goal.returns-clause-same
returns-clause-same c = search rules
