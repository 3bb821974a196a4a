use Rattle.zcalls.specs.PlainTree.{plain_tree}
use Rattle.zlinearizability.proofs.servers_lemmas.Events.{servers_hear_clients}
use Rattle.zlinearizability.proofs.servers.laws.servers_hear_clients.Goals as goal

pub returns : goal.returns
returns c = servers_hear_clients plain_tree
