use Rattle.std.proofs.Common.{refl}
use Rattle.zprotocol.proofs.server_lemmas.Tables.{server_table}
use Rattle.zprotocol.proofs.server.rows.roles_of_servers.Goals as goal

pub returns : goal.returns
unfolding server_table
returns c = record {
  middle_has_the_state = refl;
  joining_has_no_state = refl;
  head_is_head = refl;
  middle_is_no_head = refl;
  spare_is_no_head = refl;
  tail_is_tail = refl;
  middle_is_no_tail = refl;
  joining_is_no_tail = refl;
  alone_is_head = refl;
  alone_is_tail = refl;
}
