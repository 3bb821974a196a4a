use Rattle.std.proofs.Common.{refl}
use Rattle.zprotocol.proofs.server_lemmas.Tables.{server_table}
use Rattle.zprotocol.proofs.server.rows.queries_are_lost_at_a_tail.Goals as goal

pub returns : goal.returns
unfolding server_table
returns c = record {
  unheard = refl;
  heard_by_others = refl;
  update_is_heard = refl;
  stops_nobody = refl;
}
