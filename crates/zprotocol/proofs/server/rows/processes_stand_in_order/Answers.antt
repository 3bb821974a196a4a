use Rattle.std.proofs.Common.{refl}
use Rattle.zprotocol.proofs.server.rows.processes_stand_in_order.Goals as goal

pub returns : goal.returns
returns c = record {
  server_0 = refl;
  first_server = refl;
  last_server = refl;
  one_too_many = refl;
  master = refl;
  server = refl;
  no_server = refl;
  client = refl;
  last_client = refl;
  no_client = refl;
  at_0 = refl;
  at_the_last_server = refl;
  behind_the_servers = refl;
}
