-- What the worked runs open: every row of the three tables. A proof that opens one of these opens the rows on its line.
use Rattle.std.specs.Prelude.{ℕ}
use Rattle.zprotocol.proofs.server_lemmas.Tables.{chain_rows, repair_rows}
use Rattle.zprotocol.proofs.master_lemmas.Tables.{master_table}
use Rattle.zprotocol.proofs.client_lemmas.Tables.{client_table}

-- all tables
unfoldable pub all_tables : ℕ
unfolding chain_rows repair_rows master_table client_table
all_tables = 0
