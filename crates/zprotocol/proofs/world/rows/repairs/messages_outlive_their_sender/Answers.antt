use Rattle.std.proofs.Common.{refl}
use Rattle.zprotocol.proofs.world_lemmas.Tables.{all_tables}
use Rattle.zprotocol.proofs.world.rows.repairs.messages_outlive_their_sender.Goals as goal

pub returns : goal.returns
unfolding all_tables
returns c = record {
  in_time = refl;
  too_late = refl;
  taken = refl;
}
