use Rattle.std.proofs.Common.{refl}
use Rattle.zprotocol.specs.master.Table.{order_step, order_fault, master_step, have_row, joined_row, gone_row}
use Rattle.zmaster_log.specs.Log.{opened, join_played, retire_played, report_played}
use Rattle.zmaster_log.proofs.rows.logs_begin.Goals as goal

pub returns : goal.returns
unfolding opened join_played retire_played report_played order_step order_fault master_step have_row joined_row gone_row
returns c = record { opening = refl; early = refl; second = refl }
