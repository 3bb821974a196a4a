use Rattle.zheads.proofs.OneTree.{acknowledged_is_one_tree}
use Rattle.zheads.proofs.laws.acknowledged_is_one_tree.Goals as goal

pub returns : goal.returns
returns c = acknowledged_is_one_tree
