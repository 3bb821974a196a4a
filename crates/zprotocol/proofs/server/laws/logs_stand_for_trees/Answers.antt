use Rattle.zprotocol.specs.server.Machine.{cached_tree, replay}
use Rattle.zprotocol.proofs.server_lemmas.Projection.{log_stands_for_machine, table_with}
use Rattle.zprotocol.proofs.server.laws.logs_stand_for_trees.Goals as goal

pub returns-clause-log : goal.returns-clause-log
returns-clause-log c = log_stands_for_machine cached_tree

pub returns-clause-table : goal.returns-clause-table
returns-clause-table c = table_with (replay cached_tree) (log_stands_for_machine cached_tree)
