use Rattle.zcalls.specs.PlainTree.{plain_tree}
use Rattle.zlinearizability.proofs.clients_lemmas.Events.{servers_fail}
use Rattle.zlinearizability.proofs.clients.laws.servers_fail.Goals as goal

pub returns : goal.returns
returns c = servers_fail plain_tree
