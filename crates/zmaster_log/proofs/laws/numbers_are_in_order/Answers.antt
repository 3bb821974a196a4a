use Rattle.zmaster_log.proofs.Numbers.{numbers_are_in_order}
use Rattle.zmaster_log.proofs.laws.numbers_are_in_order.Goals as goal

pub returns : goal.returns
returns g c = numbers_are_in_order g.row.T.Denot
