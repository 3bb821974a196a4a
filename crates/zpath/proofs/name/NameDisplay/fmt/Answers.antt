use Rattle.std.proofs.Common.{rules}
use Rattle.zpath.proofs.name.NameDisplay.fmt.Goals as goal

pub returns-clause-writes : goal.returns-clause-writes
returns-clause-writes c = search rules
