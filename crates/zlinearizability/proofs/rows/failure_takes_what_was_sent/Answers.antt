use Rattle.std.proofs.Common.{refl}
use Rattle.zprotocol.proofs.world_lemmas.Tables.{all_tables}
use Rattle.zlinearizability.proofs.rows.failure_takes_what_was_sent.Goals as goal

pub returns : goal.returns
unfolding all_tables
returns c = record {
  lost = refl;
  gone = refl;
  seen = refl;
}
