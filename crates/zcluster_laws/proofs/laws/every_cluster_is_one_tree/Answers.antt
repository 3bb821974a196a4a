use Rattle.zcluster_laws.proofs.OneTree.{every_cluster_is_one_tree}
use Rattle.zcluster_laws.proofs.laws.every_cluster_is_one_tree.Goals as goal

pub returns : goal.returns
returns c = every_cluster_is_one_tree
