use Rattle.std.proofs.Common.{refl}
use Rattle.zprotocol.proofs.world_lemmas.Tables.{all_tables}
use Rattle.zprotocol.proofs.world.rows.joins.stale_snapshot_is_ignored.Goals as goal

pub returns : goal.returns
unfolding all_tables
returns c = record {
  no_state = refl;
  taken = refl;
  whole_state = refl;
}
