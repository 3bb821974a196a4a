use Rattle.zcalls.specs.PlainTree.{plain_tree}
use Rattle.zlinearizability.proofs.master_lemmas.Events.{master_obeys}
use Rattle.zlinearizability.proofs.master.laws.master_obeys.Goals as goal

pub returns : goal.returns
returns c = master_obeys plain_tree
