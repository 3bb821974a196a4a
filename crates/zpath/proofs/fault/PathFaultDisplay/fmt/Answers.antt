use Rattle.std.proofs.Common.{rules}
use Rattle.zpath.proofs.fault.PathFaultDisplay.fmt.Goals as goal

pub returns : goal.returns
returns c = search rules
