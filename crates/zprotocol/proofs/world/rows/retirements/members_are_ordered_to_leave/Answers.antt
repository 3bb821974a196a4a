use Rattle.std.proofs.Common.{refl}
use Rattle.zprotocol.proofs.world_lemmas.Tables.{all_tables}
use Rattle.zprotocol.proofs.world.rows.retirements.members_are_ordered_to_leave.Goals as goal

pub returns : goal.returns
unfolding all_tables
returns c = record {
  member = refl;
  spare = refl;
  only_one = refl;
  second = refl;
  failed_one = refl;
  wants_no_memory = refl;
}
