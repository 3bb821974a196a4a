use Rattle.zlinearizability.proofs.Tails.{updates_act_once}
use Rattle.zlinearizability.proofs.facts.updates_act_once.Goals as goal

pub returns : goal.returns
returns c = updates_act_once
