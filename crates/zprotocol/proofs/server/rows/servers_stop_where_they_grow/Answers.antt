use Rattle.std.proofs.Common.{refl}
use Rattle.zprotocol.proofs.server_lemmas.Tables.{server_table}
use Rattle.zprotocol.proofs.server.rows.servers_stop_where_they_grow.Goals as goal

pub returns : goal.returns
unfolding server_table
returns c = record {
  next_entry = refl;
  entry_without_reply = refl;
  entry_beyond_the_next = refl;
  ack_goes_up = refl;
  ack_ends_at_the_head = refl;
  snapshot = refl;
  snapshot_of_old_epoch = refl;
  new_pred = refl;
  new_succ_lacks_one = refl;
  new_succ_lacks_nothing = refl;
  becomes_head = refl;
  becomes_tail = refl;
  becomes_head_and_tail = refl;
}
