use Rattle.zwatches.proofs.Worked.{fires_once_is}
use Rattle.zwatches.proofs.laws.watches_fire_once.Goals as goal

pub returns : goal.returns
returns c = fires_once_is
