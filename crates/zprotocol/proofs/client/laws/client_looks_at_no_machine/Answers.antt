use Rattle.zprotocol.specs.server.Machine.{cached_tree, replay}
use Rattle.zprotocol.proofs.client_lemmas.Projection.{begins_with, retries_with, table_with}
use Rattle.zprotocol.proofs.client.laws.client_looks_at_no_machine.Goals as goal

pub returns-clause-table : goal.returns-clause-table
returns-clause-table c = table_with (replay cached_tree)

pub returns-clause-call : goal.returns-clause-call
returns-clause-call c = begins_with (replay cached_tree)

pub returns-clause-retry : goal.returns-clause-retry
returns-clause-retry c = retries_with (replay cached_tree)
