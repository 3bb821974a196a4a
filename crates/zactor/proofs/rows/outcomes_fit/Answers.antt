use Rattle.std.proofs.Common.{refl}
use Rattle.zprotocol.specs.server.Table.{accept_result, query_row, server_step, submit_row}
use Rattle.zactor.proofs.rows.outcomes_fit.Goals as goal

pub returns : goal.returns
unfolding server_step submit_row query_row accept_result
returns c = record {
  acts = refl;
  stops = refl;
  hears_updates = refl;
  unheard = refl;
  goes_on_after_queries = refl;
  hears_what_it_ignores = refl;
  goes_on_after_what_it_ignores = refl;
  leaves = refl;
  leaves_at_once = refl;
  leaves_without_memory = refl;
  obeys_the_master_alone = refl;
  is_stopped = refl;
  master_never_stops = refl;
  client_never_stops = refl;
}
