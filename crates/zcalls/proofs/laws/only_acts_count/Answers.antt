use Rattle.zcalls.proofs.ActedLogs.{only_acts_count}
use Rattle.zcalls.proofs.laws.only_acts_count.Goals as goal

pub returns : goal.returns
returns g c = only_acts_count
