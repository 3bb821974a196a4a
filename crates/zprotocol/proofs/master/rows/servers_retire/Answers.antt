use Rattle.std.proofs.Common.{refl}
use Rattle.zprotocol.proofs.master_lemmas.Tables.{master_table}
use Rattle.zprotocol.proofs.master.rows.servers_retire.Goals as goal

pub returns : goal.returns
unfolding master_table
returns c = record {
  head = refl;
  middle = refl;
  tail = refl;
  allowed = refl;
  not_member = refl;
  not_member_before_all = refl;
  empty_chain = refl;
  joining = refl;
  joining_itself = refl;
  joining_before_last = refl;
  last = refl;
  last_before_retiring = refl;
  retiring = refl;
  retiring_itself = refl;
}
