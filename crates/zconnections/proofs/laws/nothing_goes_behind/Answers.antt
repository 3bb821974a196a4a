use Rattle.zconnections.proofs.Closed.{nothing_behind}
use Rattle.zconnections.proofs.laws.nothing_goes_behind.Goals as goal

pub returns : goal.returns
returns c = nothing_behind
