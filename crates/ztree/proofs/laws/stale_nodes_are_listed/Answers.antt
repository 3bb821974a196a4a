use Rattle.ztree.proofs.Listed.{lists_stale}
use Rattle.ztree.proofs.laws.stale_nodes_are_listed.Goals as goal

pub returns : goal.returns
returns c = lists_stale
