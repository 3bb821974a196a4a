use Rattle.zcalls.specs.PlainTree.{plain_tree}
use Rattle.zlinearizability.proofs.clients_lemmas.Events.{clients_hear}
use Rattle.zlinearizability.proofs.clients.laws.clients_hear.Goals as goal

pub returns : goal.returns
returns c = clients_hear plain_tree
