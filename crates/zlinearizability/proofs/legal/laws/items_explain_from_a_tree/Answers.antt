use Rattle.zlinearizability.proofs.legal_lemmas.order.PlainTree.{items_explain_from}
use Rattle.zlinearizability.proofs.legal.laws.items_explain_from_a_tree.Goals as goal

pub returns : goal.returns
returns c = items_explain_from
