use Rattle.std.proofs.Common.{refl}
use Rattle.zprotocol.proofs.world_lemmas.Tables.{all_tables}
use Rattle.zprotocol.proofs.world.rows.steps.processes_accept_what_is_theirs.Goals as goal

pub returns : goal.returns
unfolding all_tables
returns c = record {
  any_message = refl;
  call = refl;
  second_call = refl;
  retry = refl;
  nothing_to_retry = refl;
  order = refl;
  refused_order = refl;
  stop = refl;
  server_begins = refl;
  server_obeys = refl;
  master_stops = refl;
  client_stops = refl;
  out = refl;
}
