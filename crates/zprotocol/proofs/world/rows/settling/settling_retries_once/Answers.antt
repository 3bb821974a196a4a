use Rattle.std.proofs.Common.{refl}
use Rattle.zprotocol.proofs.world_lemmas.Tables.{all_tables}
use Rattle.zprotocol.proofs.world.rows.settling.settling_retries_once.Goals as goal

pub returns : goal.returns
unfolding all_tables
returns c = record {
  retried = refl;
  counted = refl;
  answered = refl;
}
