use Rattle.zlinearizability.proofs.legal_lemmas.order.PlainTree.{items_explain}
use Rattle.zlinearizability.proofs.legal.laws.items_explain.Goals as goal

pub returns : goal.returns
returns c = items_explain
