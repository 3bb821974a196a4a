use Rattle.std.proofs.Common.{rules}
use Rattle.zprotocol.specs.server.Table.{snapshot_row}
use Rattle.zserver.proofs.replica.Replica.snapshot.Goals as goal

pub returns-clause-next : goal.returns-clause-next
unfolding snapshot_row
returns-clause-next c = search rules
