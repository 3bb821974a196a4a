use Rattle.zcalls.specs.PlainTree.{plain_tree}
use Rattle.zlinearizability.proofs.master_lemmas.orders.Orders.{servers_hear_master}
use Rattle.zlinearizability.proofs.master.laws.servers_hear_master.Goals as goal

pub returns : goal.returns
returns c = servers_hear_master plain_tree
