use Rattle.std.proofs.Common.{refl}
use Rattle.zprotocol.proofs.world_lemmas.Tables.{all_tables}
use Rattle.zheads.proofs.rows.updates_go_through_the_chain.Goals as goal

pub returns : goal.returns
unfolding all_tables
returns c = record {
  waits = refl;
  acknowledged = refl;
  alone = refl;
}
