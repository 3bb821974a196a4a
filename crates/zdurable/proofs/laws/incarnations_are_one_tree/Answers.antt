use Rattle.zdurable.proofs.Incarnations.{incarnations_are_one_tree}
use Rattle.zdurable.proofs.laws.incarnations_are_one_tree.Goals as goal

pub returns : goal.returns
returns c = incarnations_are_one_tree
