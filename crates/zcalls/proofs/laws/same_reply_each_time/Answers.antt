use Rattle.zcalls.proofs.ActedLogs.{same_reply_each_time}
use Rattle.zcalls.proofs.laws.same_reply_each_time.Goals as goal

pub returns : goal.returns
returns g c = same_reply_each_time
