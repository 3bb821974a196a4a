use Rattle.std.proofs.Common.{refl}
use Rattle.zprotocol.proofs.server_lemmas.Tables.{server_table}
use Rattle.zprotocol.proofs.server.rows.updates_go_down.Goals as goal

pub returns : goal.returns
unfolding server_table
returns c = record {
  head_forwards = refl;
  alone_answers = refl;
  alone_has_no_reply = refl;
  last_number = refl;
  no_number_left = refl;
  middle_forwards = refl;
  tail_acknowledges = refl;
  tail_without_reply = refl;
  joining_has_no_state = refl;
  spare_has_no_state = refl;
}
