use Rattle.std.proofs.Common.{refl}
use Rattle.zprotocol.proofs.world_lemmas.Tables.{all_tables}
use Rattle.zheads.proofs.rows.queries_wait_for_an_entry.Goals as goal

pub returns : goal.returns
unfolding all_tables
returns c = record {
  waits = refl;
  with_entry = refl;
}
