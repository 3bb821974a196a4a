use Rattle.std.proofs.Common.{refl}
use Rattle.zprotocol.proofs.world_lemmas.Tables.{all_tables}
use Rattle.zprotocol.proofs.world.rows.scenarios.state_outlives_its_first_server.Goals as goal

pub returns : goal.returns
unfolding all_tables
returns c = record {
  seen = refl;
  chain = refl;
}
