use Rattle.std.proofs.Common.{refl}
use Rattle.zprotocol.specs.server.Table.{new_pred_row, server_step}
use Rattle.zactor.proofs.rows.servers_stop.Goals as goal

pub returns : goal.returns
unfolding server_step new_pred_row
returns c = record {
  left = refl;
  out_of_memory = refl;
  stopped = refl;
  unheard = refl;
  puts_nothing = refl;
  puts_nothing_as_it_leaves = refl;
  puts_what_it_sends = refl;
  sends = refl;
}
