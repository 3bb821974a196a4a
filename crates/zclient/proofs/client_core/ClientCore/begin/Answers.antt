use Rattle.std.proofs.Common.{rules}
use Rattle.zclient.proofs.client_core.ClientCore.begin.Goals as goal

pub returns-in_default-send_call-clause-same : goal.returns-in_default-send_call-clause-same
returns-in_default-send_call-clause-same g c = search rules
