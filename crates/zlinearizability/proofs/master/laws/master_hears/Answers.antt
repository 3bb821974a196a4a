use Rattle.zcalls.specs.PlainTree.{plain_tree}
use Rattle.zlinearizability.proofs.master_lemmas.Events.{master_hears}
use Rattle.zlinearizability.proofs.master.laws.master_hears.Goals as goal

pub returns : goal.returns
returns c = master_hears plain_tree
