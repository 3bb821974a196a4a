use Rattle.std.proofs.Common.{refl}
use Rattle.zprotocol.proofs.server_lemmas.Tables.{server_table}
use Rattle.zprotocol.proofs.server.rows.state_is_handed_over.Goals as goal

pub returns : goal.returns
unfolding server_table
returns c = record {
  snapshot_is_taken = refl;
  nothing_stays_in_sent = refl;
  snapshot_of_old_epoch = refl;
  snapshot_of_a_stranger = refl;
  snapshot_at_a_spare = refl;
  old_tail_is_silent = refl;
  old_tail_forwards = refl;
}
