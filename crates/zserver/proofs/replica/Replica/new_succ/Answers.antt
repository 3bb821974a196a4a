use Rattle.std.proofs.Common.{rules}
use Rattle.zprotocol.specs.server.Table.{new_succ_row}
use Rattle.zserver.proofs.replica.Replica.new_succ.Goals as goal

pub returns-clause-next : goal.returns-clause-next
unfolding new_succ_row
returns-clause-next c = search rules
