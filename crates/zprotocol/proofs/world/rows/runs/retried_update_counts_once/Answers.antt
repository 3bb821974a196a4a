use Rattle.std.proofs.Common.{refl}
use Rattle.zprotocol.proofs.world_lemmas.Tables.{all_tables}
use Rattle.zprotocol.proofs.world.rows.runs.retried_update_counts_once.Goals as goal

pub returns : goal.returns
unfolding all_tables
returns c = record {
  two_answers = refl;
  one_is_taken = refl;
  stale_answer = refl;
  next_count = refl;
}
