use Rattle.std.proofs.Common.{refl}
use Rattle.zprotocol.proofs.world_lemmas.Tables.{all_tables}
use Rattle.zprotocol.proofs.world.rows.repairs.head_fails_after_it_forwarded.Goals as goal

pub returns : goal.returns
unfolding all_tables
returns c = record {
  gone = refl;
  reported = refl;
  head = refl;
  seen = refl;
}
