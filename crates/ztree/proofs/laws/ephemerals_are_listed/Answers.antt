use Rattle.ztree.proofs.Listed.{lists_ephemerals}
use Rattle.ztree.proofs.laws.ephemerals_are_listed.Goals as goal

pub returns : goal.returns
returns c = lists_ephemerals
