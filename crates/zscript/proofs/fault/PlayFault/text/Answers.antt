use Rattle.std.proofs.Common.{rules}
use Rattle.zscript.proofs.fault.PlayFault.text.Goals as goal

pub returns-in-Read : goal.returns-in-Read
returns-in-Read c = search rules
