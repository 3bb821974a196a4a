use Rattle.std.proofs.Common.{refl}
use Rattle.zprotocol.proofs.server_lemmas.Tables.{server_table}
use Rattle.zprotocol.proofs.server.rows.middle_ignores.Goals as goal

pub returns : goal.returns
unfolding server_table
returns c = record {
  update_of_old_epoch = refl;
  update_beyond_the_next = refl;
  update_again = refl;
  update_of_a_stranger = refl;
  update_of_the_successor = refl;
  ack_of_old_epoch = refl;
  ack_of_the_predecessor = refl;
  snapshot = refl;
  query = refl;
  submit = refl;
  joined = refl;
  gone = refl;
  order_of_a_server = refl;
  answer = refl;
}
