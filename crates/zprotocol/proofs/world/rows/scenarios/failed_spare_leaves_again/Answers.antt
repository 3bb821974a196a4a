use Rattle.std.proofs.Common.{refl}
use Rattle.zprotocol.proofs.world_lemmas.Tables.{all_tables}
use Rattle.zprotocol.proofs.world.rows.scenarios.failed_spare_leaves_again.Goals as goal

pub returns : goal.returns
unfolding all_tables
returns c = record {
  seen = refl;
  used = refl;
}
