use Rattle.zcalls.specs.PlainTree.{plain_tree}
use Rattle.zlinearizability.proofs.chain_lemmas.steps.Drops.{requests_are_lost}
use Rattle.zlinearizability.proofs.chain.laws.requests_are_lost.Goals as goal

pub returns : goal.returns
returns c = requests_are_lost plain_tree
