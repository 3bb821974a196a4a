use Rattle.zconnections.proofs.Closed.{once}
use Rattle.zconnections.proofs.laws.closed_once.Goals as goal

pub returns : goal.returns
returns c = once
