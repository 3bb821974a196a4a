use Rattle.std.proofs.Common.{refl}
use Rattle.zprotocol.proofs.world_lemmas.Tables.{all_tables}
use Rattle.zheads.proofs.rows.only_live_heads_take_calls.Goals as goal

pub returns : goal.returns
unfolding all_tables
returns c = record {
  middle = refl;
  spare = refl;
  failed = refl;
}
