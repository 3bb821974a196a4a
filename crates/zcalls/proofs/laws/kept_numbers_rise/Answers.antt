use Rattle.zcalls.proofs.ActedLogs.{numbers_rise}
use Rattle.zcalls.proofs.laws.kept_numbers_rise.Goals as goal

pub returns : goal.returns
returns g c = numbers_rise
