use Rattle.std.proofs.Common.{refl}
use Rattle.zprotocol.proofs.world_lemmas.Tables.{all_tables}
use Rattle.zprotocol.proofs.world.rows.joins.joining_server_is_handed_the_state.Goals as goal

pub returns : goal.returns
unfolding all_tables
returns c = record {
  one_joins = refl;
  silent = refl;
  reported = refl;
  handed_over = refl;
  seen = refl;
}
