use Rattle.zprotocol.specs.server.Machine.{cached_tree, replay}
use Rattle.zprotocol.proofs.master_lemmas.Projection.{order_with, table_with}
use Rattle.zprotocol.proofs.master.laws.master_looks_at_no_machine.Goals as goal

pub returns-clause-table : goal.returns-clause-table
returns-clause-table c = table_with (replay cached_tree)

pub returns-clause-order : goal.returns-clause-order
returns-clause-order c = order_with (replay cached_tree)
