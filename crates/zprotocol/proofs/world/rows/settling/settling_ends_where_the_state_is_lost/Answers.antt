use Rattle.std.proofs.Common.{refl}
use Rattle.zprotocol.proofs.world_lemmas.Tables.{all_tables}
use Rattle.zprotocol.proofs.world.rows.settling.settling_ends_where_the_state_is_lost.Goals as goal

pub returns : goal.returns
unfolding all_tables
returns c = record {
  quiet = refl;
  unanswered = refl;
  refused = refl;
}
