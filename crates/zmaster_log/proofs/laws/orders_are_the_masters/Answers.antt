use Rattle.zmaster_log.proofs.Orders.{orders_are_the_masters}
use Rattle.zmaster_log.proofs.laws.orders_are_the_masters.Goals as goal

pub returns : goal.returns
returns g c = orders_are_the_masters g.row.T.Denot
