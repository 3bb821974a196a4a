use Rattle.zprotocol.specs.server.Machine.{cached_tree}
use Rattle.zprotocol.proofs.world_lemmas.Fitting.{fitting_is_read}
use Rattle.zprotocol.proofs.world.laws.fitting_outcomes_are_read.Goals as goal

pub returns : goal.returns
returns c = fitting_is_read cached_tree
