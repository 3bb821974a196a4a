use Rattle.std.proofs.Common.{refl}
use Rattle.zprotocol.proofs.world_lemmas.Tables.{all_tables}
use Rattle.zprotocol.proofs.world.rows.retirements.members_leave_in_turn.Goals as goal

pub returns : goal.returns
unfolding all_tables
returns c = record {
  second = refl;
  first_left = refl;
  last = refl;
  not_member = refl;
  seen = refl;
}
