use Rattle.zfront_laws.proofs.Inputs.{every_front_is_its_trees, every_front_is_one_tree}
use Rattle.zfront_laws.proofs.laws.every_front_is_one_tree.Goals as goal

pub returns : goal.returns
returns c = record { log = every_front_is_one_tree; since = every_front_is_its_trees }
