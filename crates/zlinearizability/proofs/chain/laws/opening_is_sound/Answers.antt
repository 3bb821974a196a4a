use Rattle.zcalls.specs.PlainTree.{plain_tree}
use Rattle.zlinearizability.proofs.chain_lemmas.steps.Opening.{opening_sound}
use Rattle.zlinearizability.proofs.chain.laws.opening_is_sound.Goals as goal

pub returns : goal.returns
returns c = opening_sound plain_tree
