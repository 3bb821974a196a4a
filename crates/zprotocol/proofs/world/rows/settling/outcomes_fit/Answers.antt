use Rattle.std.proofs.Common.{refl}
use Rattle.zprotocol.proofs.world_lemmas.Tables.{all_tables}
use Rattle.zprotocol.proofs.world.rows.settling.outcomes_fit.Goals as goal

pub returns : goal.returns
unfolding all_tables
returns c = record {
  all_act = refl;
  update_stops = refl;
  update_is_heard = refl;
  query_stops_nobody = refl;
  query_is_unheard = refl;
  nothing_to_stop_at = refl;
  retry_does_not_stop = refl;
  new_head_goes_on = refl;
  query_elsewhere_is_heard = refl;
}
