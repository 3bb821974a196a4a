use Rattle.std.proofs.Common.{refl}
use Rattle.zprotocol.proofs.client_lemmas.Tables.{client_table}
use Rattle.zprotocol.proofs.client.rows.answers_are_taken.Goals as goal

pub returns : goal.returns
unfolding client_table
returns c = record {
  answer = refl;
  answer_of_any_server = refl;
  old_answer = refl;
  answer_again = refl;
  answer_of_the_master = refl;
  config_and_update = refl;
  config_and_query = refl;
  config_and_no_call = refl;
  config_without_chain = refl;
  config_of_same_epoch = refl;
  config_of_a_server = refl;
  other_message = refl;
}
