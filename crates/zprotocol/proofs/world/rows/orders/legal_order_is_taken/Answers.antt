use Rattle.zprotocol.proofs.world_lemmas.OrderRows.{explained}
use Rattle.zprotocol.proofs.world.rows.orders.legal_order_is_taken.Goals as goal

pub returns : goal.returns
returns c = record { explained = explained }
