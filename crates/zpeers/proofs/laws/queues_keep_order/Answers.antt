use Rattle.zpeers.proofs.Queues.{keep_order}
use Rattle.zpeers.proofs.laws.queues_keep_order.Goals as goal

pub returns : goal.returns
returns c = keep_order
