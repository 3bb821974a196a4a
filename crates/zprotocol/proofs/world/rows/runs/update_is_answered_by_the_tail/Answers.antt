use Rattle.std.proofs.Common.{refl}
use Rattle.zprotocol.proofs.world_lemmas.Tables.{all_tables}
use Rattle.zprotocol.proofs.world.rows.runs.update_is_answered_by_the_tail.Goals as goal

pub returns : goal.returns
unfolding all_tables
returns c = record {
  head_is_silent = refl;
  kept = refl;
  unseen = refl;
  answered = refl;
  acknowledged = refl;
  all_have_it = refl;
  nothing_is_left = refl;
}
