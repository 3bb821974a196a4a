use Rattle.std.proofs.Common.{refl}
use Rattle.zprotocol.proofs.world_lemmas.Tables.{all_tables}
use Rattle.zprotocol.proofs.world.rows.joins.state_is_lost_with_its_only_server.Goals as goal

pub returns : goal.returns
unfolding all_tables
returns c = record {
  silent = refl;
  unanswered = refl;
  refused = refl;
  not_enabled = refl;
}
