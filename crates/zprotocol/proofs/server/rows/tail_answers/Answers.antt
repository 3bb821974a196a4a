use Rattle.std.proofs.Common.{refl}
use Rattle.zprotocol.proofs.server_lemmas.Tables.{server_table}
use Rattle.zprotocol.proofs.server.rows.tail_answers.Goals as goal

pub returns : goal.returns
unfolding server_table
returns c = record {
  tail_answers = refl;
  alone_answers = refl;
  head_is_silent = refl;
  joining_is_silent = refl;
  ack_goes_up = refl;
  ack_of_all = refl;
  ack_ends_at_the_head = refl;
  tail_has_no_successor = refl;
}
