use Rattle.zcalls.proofs.ActedLogs.{replies_stay}
use Rattle.zcalls.proofs.laws.replies_stay_until_the_next.Goals as goal

pub returns : goal.returns
returns g c = replies_stay
