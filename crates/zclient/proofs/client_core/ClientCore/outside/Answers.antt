use Rattle.std.proofs.Common.{rules}
use Rattle.zclient.proofs.client_core.ClientCore.outside.Goals as goal

pub returns : goal.returns
returns c = search rules
