use Rattle.zprotocol.proofs.world_lemmas.Incarnations.{two_incarnations_are_one, the_second_incarnation_leaves_the_tree}
use Rattle.zprotocol.proofs.world.laws.two_incarnations_are_one.Goals as goal

pub returns : goal.returns
returns c = record { explained = two_incarnations_are_one; leaves = the_second_incarnation_leaves_the_tree }
