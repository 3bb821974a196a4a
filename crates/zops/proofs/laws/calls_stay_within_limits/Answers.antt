use Rattle.zops.proofs.Limited.{calls_stay_within}
use Rattle.zops.proofs.laws.calls_stay_within_limits.Goals as goal

pub returns : goal.returns
returns c = calls_stay_within
