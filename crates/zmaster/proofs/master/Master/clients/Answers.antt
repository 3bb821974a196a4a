use Rattle.std.proofs.Common.{rules}
use Rattle.zmaster.proofs.master.Master.clients.Goals as goal

pub returns : goal.returns
returns c = search rules
