use Rattle.std.proofs.Common.{refl}
use Rattle.zprotocol.proofs.master_lemmas.Tables.{master_table}
use Rattle.zprotocol.proofs.master.rows.reports_are_passed_on.Goals as goal

pub returns : goal.returns
unfolding master_table
returns c = record {
  have = refl;
  have_no_state = refl;
  have_of_old_epoch = refl;
  have_of_the_head = refl;
  have_of_a_stranger = refl;
  have_of_a_client = refl;
  joined = refl;
  joined_of_another = refl;
  joined_again = refl;
  order_of_a_server = refl;
}
