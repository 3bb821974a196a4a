use Rattle.zcalls.proofs.LimitsStay.{limits_stay}
use Rattle.zcalls.proofs.laws.limits_stay.Goals as goal

pub returns : goal.returns
returns c = limits_stay
