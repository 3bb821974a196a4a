use Rattle.zcalls.specs.PlainTree.{plain_tree}
use Rattle.zlinearizability.proofs.chain_lemmas.tables.Lasts.{lasts}
use Rattle.zlinearizability.proofs.chain.laws.lasts_are_lengths.Goals as goal

pub returns : goal.returns
returns c = lasts plain_tree
