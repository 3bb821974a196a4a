use Rattle.std.proofs.Common.{refl}
use Rattle.zprotocol.proofs.world_lemmas.Tables.{all_tables}
use Rattle.zprotocol.proofs.world.rows.runs.request_is_lost.Goals as goal

pub returns : goal.returns
unfolding all_tables
returns c = record {
  lost = refl;
  nothing_done = refl;
  asked_again = refl;
}
