use Rattle.std.proofs.Common.{rules}
use Rattle.znodes.proofs.nodes.Nodes.given.Goals as goal

pub returns : goal.returns
returns c = search rules
