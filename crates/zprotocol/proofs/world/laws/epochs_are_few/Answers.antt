use Rattle.zprotocol.proofs.world_lemmas.Epochs.{epochs_are_few}
use Rattle.zprotocol.proofs.world.laws.epochs_are_few.Goals as goal

pub returns : goal.returns
returns c = epochs_are_few
