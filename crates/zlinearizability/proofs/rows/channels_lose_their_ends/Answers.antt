use Rattle.std.proofs.Common.{refl}
use Rattle.zprotocol.proofs.world_lemmas.Tables.{all_tables}
use Rattle.zlinearizability.proofs.rows.channels_lose_their_ends.Goals as goal

pub returns : goal.returns
unfolding all_tables
returns c = record {
  end = refl;
  of_a_client = refl;
  to_the_master = refl;
  of_the_master = refl;
  each_by_itself = refl;
  no_more = refl;
}
