use Rattle.std.proofs.Common.{refl}
use Rattle.zprotocol.proofs.master_lemmas.Tables.{master_table}
use Rattle.zprotocol.proofs.master.rows.chain_is_mended.Goals as goal

pub returns : goal.returns
unfolding master_table
returns c = record {
  first = refl;
  last = refl;
  middle = refl;
  middle_of_four = refl;
  second_of_four = refl;
  joining = refl;
  beneath_one_that_joins = refl;
  only = refl;
  outside = refl;
  spare = refl;
}
