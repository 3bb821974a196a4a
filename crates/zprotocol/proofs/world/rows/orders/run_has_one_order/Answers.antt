use Rattle.zprotocol.proofs.world_lemmas.RunOrder.{explains_the_run, other_order_does_not}
use Rattle.zprotocol.proofs.world.rows.orders.run_has_one_order.Goals as goal

pub returns : goal.returns
returns c = record { explained = explains_the_run; no_other = other_order_does_not }
