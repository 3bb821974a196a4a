use Rattle.zcalls.proofs.ActedLogs.{reply_is_acted}
use Rattle.zcalls.proofs.laws.replies_are_of_acts.Goals as goal

pub returns : goal.returns
returns g c = reply_is_acted
