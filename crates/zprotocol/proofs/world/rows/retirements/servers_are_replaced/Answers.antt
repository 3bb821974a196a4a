use Rattle.std.proofs.Common.{refl}
use Rattle.zprotocol.proofs.world_lemmas.Tables.{all_tables}
use Rattle.zprotocol.proofs.world.rows.retirements.servers_are_replaced.Goals as goal

pub returns : goal.returns
unfolding all_tables
returns c = record {
  joining = refl;
  retiring = refl;
  free = refl;
  gone_one = refl;
  chain = refl;
  seen = refl;
}
