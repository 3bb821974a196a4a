use Rattle.std.proofs.Common.{rules}
use Rattle.zprotocol.specs.client.Table.{answer_row}
use Rattle.zclient.proofs.client_core.ClientCore.answer.Goals as goal

pub returns-clause-next : goal.returns-clause-next
unfolding answer_row
returns-clause-next g c = search rules

pub returns-clause-reply : goal.returns-clause-reply
unfolding answer_row
returns-clause-reply g c = search rules
