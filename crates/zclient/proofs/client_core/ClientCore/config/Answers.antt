use Rattle.std.proofs.Common.{rules}
use Rattle.zprotocol.specs.client.Table.{config_row}
use Rattle.zclient.proofs.client_core.ClientCore.config.Goals as goal

pub returns-in_err-send-clause-later : goal.returns-in_err-send-clause-later
unfolding config_row
returns-in_err-send-clause-later g c = search rules

pub returns-clause-next : goal.returns-clause-next
unfolding config_row
returns-clause-next g c = search rules

pub returns-clause-puts : goal.returns-clause-puts
unfolding config_row
returns-clause-puts g c = search rules
