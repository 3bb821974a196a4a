use Rattle.std.proofs.Common.{refl}
use Rattle.zprotocol.proofs.world_lemmas.Tables.{all_tables}
use Rattle.zprotocol.proofs.world.rows.settling.settling_is_read.Goals as goal

pub returns : goal.returns
unfolding all_tables
returns c = record {
  stopped = refl;
  unheard = refl;
}
