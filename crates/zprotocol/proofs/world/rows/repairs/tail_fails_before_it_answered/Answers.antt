use Rattle.std.proofs.Common.{refl}
use Rattle.zprotocol.proofs.world_lemmas.Tables.{all_tables}
use Rattle.zprotocol.proofs.world.rows.repairs.tail_fails_before_it_answered.Goals as goal

pub returns : goal.returns
unfolding all_tables
returns c = record {
  reported = refl;
  tail = refl;
  processed = refl;
  silent = refl;
  acted_once = refl;
  seen = refl;
}
