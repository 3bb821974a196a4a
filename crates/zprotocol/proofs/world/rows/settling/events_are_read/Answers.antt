use Rattle.std.proofs.Common.{refl}
use Rattle.zprotocol.proofs.world_lemmas.Tables.{all_tables}
use Rattle.zprotocol.proofs.world.rows.settling.events_are_read.Goals as goal

pub returns : goal.returns
unfolding all_tables
returns c = record {
  stopped = refl;
  unheard = refl;
  update_is_heard = refl;
  query_stops_nobody = refl;
  nothing_to_stop_at = refl;
  client_does_not_stop = refl;
  new_head_goes_on = refl;
}
