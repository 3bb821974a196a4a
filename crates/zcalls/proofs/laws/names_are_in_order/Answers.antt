use Rattle.zcalls.proofs.InOrder.{lists_in_order}
use Rattle.zcalls.proofs.laws.names_are_in_order.Goals as goal

pub returns : goal.returns
returns c = lists_in_order
