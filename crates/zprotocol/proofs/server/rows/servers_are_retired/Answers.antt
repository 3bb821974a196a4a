use Rattle.std.proofs.Common.{refl}
use Rattle.zprotocol.proofs.server_lemmas.Tables.{server_table}
use Rattle.zprotocol.proofs.server.rows.servers_are_retired.Goals as goal

pub returns : goal.returns
unfolding server_table
returns c = record {
  middle = refl;
  changes_nothing = refl;
  wants_no_memory = refl;
  order_of_a_server = refl;
  order_of_a_client = refl;
  other_order = refl;
}
