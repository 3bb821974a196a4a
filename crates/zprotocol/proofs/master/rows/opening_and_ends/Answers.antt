use Rattle.std.proofs.Common.{refl}
use Rattle.zprotocol.proofs.master_lemmas.Tables.{master_table}
use Rattle.zprotocol.proofs.master.rows.opening_and_ends.Goals as goal

pub returns : goal.returns
unfolding master_table
returns c = record {
  opening = refl;
  head = refl;
  tail = refl;
  tail_is_joining = refl;
  tail_of_one = refl;
  tail_without_state = refl;
  no_head = refl;
  no_tail = refl;
  number_in_its_place = refl;
  number_once = refl;
}
