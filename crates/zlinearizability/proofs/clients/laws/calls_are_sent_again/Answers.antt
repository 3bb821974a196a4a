use Rattle.zcalls.specs.PlainTree.{plain_tree}
use Rattle.zlinearizability.proofs.clients_lemmas.Events.{calls_are_sent_again}
use Rattle.zlinearizability.proofs.clients.laws.calls_are_sent_again.Goals as goal

pub returns : goal.returns
returns c = calls_are_sent_again plain_tree
