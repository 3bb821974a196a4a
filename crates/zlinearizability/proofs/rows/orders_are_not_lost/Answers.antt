use Rattle.std.proofs.Common.{refl}
use Rattle.zprotocol.proofs.world_lemmas.Tables.{all_tables}
use Rattle.zlinearizability.proofs.rows.orders_are_not_lost.Goals as goal

pub returns : goal.returns
unfolding all_tables
returns c = record {
  head = refl;
  reported = refl;
}
