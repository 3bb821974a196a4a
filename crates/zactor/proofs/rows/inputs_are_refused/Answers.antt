use Rattle.std.proofs.Common.{refl}
use Rattle.zprotocol.specs.client.Table.{begin_fault}
use Rattle.zprotocol.specs.master.Table.{order_fault}
use Rattle.zactor.proofs.rows.inputs_are_refused.Goals as goal

pub returns : goal.returns
unfolding begin_fault order_fault
returns c = record {
  joins = refl;
  used = refl;
  not_member = refl;
  master_begins = refl;
  begins = refl;
  busy = refl;
  exhausted = refl;
  retries = refl;
  nothing_to_retry = refl;
  client_obeys = refl;
  server_stops = refl;
  server_retries = refl;
  stopped_hears = refl;
  stopped_stops = refl;
}
