-- What worked rows open: every row of the master table.
use Rattle.std.specs.Prelude.{ℕ}
use Rattle.zprotocol.specs.master.Table.{master_step, have_row, joined_row, gone_row, order_step, order_fault}

-- the master table
unfoldable pub master_table : ℕ
unfolding master_step have_row joined_row gone_row order_step order_fault
master_table = 0
