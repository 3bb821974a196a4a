use Rattle.zguard_laws.proofs.Strangers.{no_stranger_makes_a_call}
use Rattle.zguard_laws.proofs.laws.no_stranger_makes_a_call.Goals as goal

pub returns : goal.returns
returns c = no_stranger_makes_a_call
