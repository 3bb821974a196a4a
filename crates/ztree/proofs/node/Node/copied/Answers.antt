use Rattle.std.proofs.Common.{rules}
use Rattle.ztree.proofs.node.Node.copied.Goals as goal

pub returns : goal.returns
returns c = search rules
