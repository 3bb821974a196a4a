use Rattle.std.proofs.Common.{refl}
use Rattle.zprotocol.proofs.server_lemmas.Tables.{server_table}
use Rattle.zprotocol.proofs.server.rows.neighbours_change.Goals as goal

pub returns : goal.returns
unfolding server_table
returns c = record {
  new_pred = refl;
  new_pred_without_state = refl;
  new_succ_lacks_nothing = refl;
  new_succ_lacks_one = refl;
  new_succ_lacks_two = refl;
  new_succ_has_no_state = refl;
  joining_has_no_successor = refl;
  middle_becomes_head = refl;
  joining_becomes_head = refl;
  middle_becomes_tail = refl;
  head_becomes_tail = refl;
  joining_becomes_tail = refl;
}
