use Rattle.std.proofs.Common.{rules}
use Rattle.zclient.proofs.client_core.ClientCore.retry.Goals as goal

pub returns-clause-waits : goal.returns-clause-waits
returns-clause-waits g c = search rules
