use Rattle.zfront_laws.proofs.Starts.{settled_trees_can_start}
use Rattle.zfront_laws.proofs.laws.settled_trees_can_start.Goals as goal

pub returns : goal.returns
returns c = settled_trees_can_start
