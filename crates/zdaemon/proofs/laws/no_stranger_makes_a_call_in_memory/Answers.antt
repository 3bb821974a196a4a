use Rattle.zdaemon.proofs.Strangers.{no_stranger_in_memory}
use Rattle.zdaemon.proofs.laws.no_stranger_makes_a_call_in_memory.Goals as goal

pub returns : goal.returns
returns c = no_stranger_in_memory c.no_stranger_makes_a_call.ensures
