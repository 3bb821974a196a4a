use Rattle.ztree_service.proofs.log_lemmas.Incarnations.{incarnations_are_one_trees, incarnations_are_one_trees_from, incarnations_leave_one_tree, trees_can_start_again}
use Rattle.ztree_service.proofs.log.laws.incarnations_are_one_trees.Goals as goal

pub returns : goal.returns
returns c = record { initial = incarnations_are_one_trees; from = incarnations_are_one_trees_from; leaves = incarnations_leave_one_tree; again = trees_can_start_again }
