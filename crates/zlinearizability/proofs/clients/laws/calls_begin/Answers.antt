use Rattle.zcalls.specs.PlainTree.{plain_tree}
use Rattle.zlinearizability.proofs.clients_lemmas.Events.{calls_begin}
use Rattle.zlinearizability.proofs.clients.laws.calls_begin.Goals as goal

pub returns : goal.returns
returns c = calls_begin plain_tree
