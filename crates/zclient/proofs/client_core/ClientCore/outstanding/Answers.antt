use Rattle.std.proofs.Common.{rules}
use Rattle.zclient.proofs.client_core.ClientCore.outstanding.Goals as goal

pub returns : goal.returns
returns c = search rules
