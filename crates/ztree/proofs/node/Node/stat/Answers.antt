use Rattle.std.proofs.Common.{rules}
use Rattle.ztree.proofs.node.Node.stat.Goals as goal

pub returns : goal.returns
returns c = search rules
