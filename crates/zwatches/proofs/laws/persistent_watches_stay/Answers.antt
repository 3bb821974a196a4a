use Rattle.zwatches.proofs.Worked.{fires_each_time}
use Rattle.zwatches.proofs.laws.persistent_watches_stay.Goals as goal

pub returns : goal.returns
returns c = fires_each_time
