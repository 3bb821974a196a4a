use Rattle.std.proofs.Common.{refl}
use Rattle.zprotocol.proofs.world_lemmas.Tables.{all_tables}
use Rattle.zprotocol.proofs.world.rows.runs.links_keep_order.Goals as goal

pub returns : goal.returns
unfolding all_tables
returns c = record {
  under_way = refl;
  seen = refl;
}
