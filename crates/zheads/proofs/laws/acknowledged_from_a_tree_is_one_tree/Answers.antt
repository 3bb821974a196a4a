use Rattle.zheads.proofs.OneTree.{acknowledged_from_is_one_tree}
use Rattle.zheads.proofs.laws.acknowledged_from_a_tree_is_one_tree.Goals as goal

pub returns : goal.returns
returns c = acknowledged_from_is_one_tree
