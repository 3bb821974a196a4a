use Rattle.std.proofs.Common.{refl}
use Rattle.zprotocol.proofs.world_lemmas.Tables.{all_tables}
use Rattle.zprotocol.proofs.world.rows.repairs.middle_fails_before_it_forwarded.Goals as goal

pub returns : goal.returns
unfolding all_tables
returns c = record {
  unsent = refl;
  lost = refl;
  new_pred = refl;
  has_none = refl;
  new_succ = refl;
  sent_again = refl;
  still_kept = refl;
  seen = refl;
  acknowledged = refl;
}
