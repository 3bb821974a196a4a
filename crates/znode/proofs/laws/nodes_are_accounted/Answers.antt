use Rattle.znode.proofs.node_lemmas.Accounts.{nodes_are_accounted}
use Rattle.znode.proofs.laws.nodes_are_accounted.Goals as goal

pub returns : goal.returns
returns c = nodes_are_accounted
