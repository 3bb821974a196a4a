use Rattle.zprotocol.proofs.world_lemmas.FirstCalls.{silence, first_query}
use Rattle.zprotocol.proofs.world_lemmas.FirstUpdate.{first_update}
use Rattle.zprotocol.proofs.world.rows.orders.plain_tree_explains.Goals as goal

pub returns : goal.returns
returns c = record { silence = silence; first_query = first_query; first_update = first_update }
