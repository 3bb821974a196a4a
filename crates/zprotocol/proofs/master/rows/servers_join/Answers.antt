use Rattle.std.proofs.Common.{refl}
use Rattle.zprotocol.proofs.master_lemmas.Tables.{master_table}
use Rattle.zprotocol.proofs.master.rows.servers_join.Goals as goal

pub returns : goal.returns
unfolding master_table
returns c = record {
  joins = refl;
  allowed = refl;
  used = refl;
  used_before_all = refl;
  joining = refl;
  no_chain = refl;
  lost = refl;
  one_with_state = refl;
  retiring = refl;
  used_before_retiring = refl;
  joining_before_retiring = refl;
  lost_before_retiring = refl;
}
