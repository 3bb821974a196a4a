use Rattle.std.proofs.Common.{rules}
use Rattle.znodes.proofs.nodes.Nodes.copy.Goals as goal

pub returns : goal.returns
returns c = search rules
