use Rattle.zfront_laws.proofs.Starts.{initial_trees_are_settled}
use Rattle.zfront_laws.proofs.laws.initial_trees_are_settled.Goals as goal

pub returns : goal.returns
returns c = initial_trees_are_settled
