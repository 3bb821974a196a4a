use Rattle.std.proofs.Common.{refl}
use Rattle.zprotocol.proofs.world_lemmas.Tables.{all_tables}
use Rattle.zheads.proofs.rows.entries_of_a_lost_head.Goals as goal

pub returns : goal.returns
unfolding all_tables
returns c = record {
  had = refl;
  lacked = refl;
}
