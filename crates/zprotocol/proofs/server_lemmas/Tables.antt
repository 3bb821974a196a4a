-- What worked rows open: every row of the server table. A proof that opens one of these opens the rows on its line.
use Rattle.std.specs.Prelude.{ℕ}
use Rattle.zprotocol.specs.server.Table.{server_step, submit_row, query_row, update_row, ack_row, snapshot_row}
use Rattle.zprotocol.specs.server.Table.{new_pred_row, new_succ_row, become_head_row, become_tail_row, accept_result}

-- what comes from clients and servers
unfoldable pub chain_rows : ℕ
unfolding server_step accept_result submit_row query_row update_row ack_row snapshot_row
chain_rows = 0

-- what comes from the master
unfoldable pub repair_rows : ℕ
unfolding new_pred_row new_succ_row become_head_row become_tail_row
repair_rows = 0

-- the server table
unfoldable pub server_table : ℕ
unfolding chain_rows repair_rows
server_table = 0
