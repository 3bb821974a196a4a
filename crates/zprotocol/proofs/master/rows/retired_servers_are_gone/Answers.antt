use Rattle.std.proofs.Common.{refl}
use Rattle.zprotocol.proofs.master_lemmas.Tables.{master_table}
use Rattle.zprotocol.proofs.master.rows.retired_servers_are_gone.Goals as goal

pub returns : goal.returns
unfolding master_table
returns c = record {
  head = refl;
  middle = refl;
  tail = refl;
  another = refl;
  outside = refl;
  next = refl;
  next_joins = refl;
  gone_one = refl;
  gone_one_joins = refl;
}
