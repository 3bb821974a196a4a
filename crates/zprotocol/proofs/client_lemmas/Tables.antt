-- What worked rows open: every row of the client table.
use Rattle.std.specs.Prelude.{ℕ}
use Rattle.zprotocol.specs.client.Table.{client_step, answer_row, config_row, begin_step, begin_fault, retry_posts}

-- the client table
unfoldable pub client_table : ℕ
unfolding client_step answer_row config_row begin_step begin_fault retry_posts
client_table = 0
