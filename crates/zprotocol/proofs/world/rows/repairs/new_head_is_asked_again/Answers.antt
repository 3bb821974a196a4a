use Rattle.std.proofs.Common.{refl}
use Rattle.zprotocol.proofs.world_lemmas.Tables.{all_tables}
use Rattle.zprotocol.proofs.world.rows.repairs.new_head_is_asked_again.Goals as goal

pub returns : goal.returns
unfolding all_tables
returns c = record {
  reported = refl;
  asked = refl;
  two_answers = refl;
  seen = refl;
}
