use Rattle.std.proofs.Common.{refl}
use Rattle.zprotocol.proofs.world_lemmas.Tables.{all_tables}
use Rattle.zprotocol.proofs.world.rows.scenarios.answers_survive_failures.Goals as goal

pub returns : goal.returns
unfolding all_tables
returns c = record {
  two_fail = refl;
  both_middle_servers_fail = refl;
  head_fails_in_a_repair = refl;
}
