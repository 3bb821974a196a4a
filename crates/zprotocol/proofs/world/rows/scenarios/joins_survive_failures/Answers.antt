use Rattle.std.proofs.Common.{refl}
use Rattle.zprotocol.proofs.world_lemmas.Tables.{all_tables}
use Rattle.zprotocol.proofs.world.rows.scenarios.joins_survive_failures.Goals as goal

pub returns : goal.returns
unfolding all_tables
returns c = record {
  tail_fails = refl;
  new_tail = refl;
  joining_fails = refl;
  old_tail = refl;
}
