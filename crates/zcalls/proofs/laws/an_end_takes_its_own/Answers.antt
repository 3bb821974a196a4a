use Rattle.ztree.proofs.Ending.{has_node-ended}
use Rattle.zcalls.proofs.laws.an_end_takes_its_own.Goals as goal

pub returns : goal.returns
returns c = has_node-ended
