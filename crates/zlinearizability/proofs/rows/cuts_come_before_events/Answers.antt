use Rattle.std.proofs.Common.{refl}
use Rattle.zprotocol.proofs.world_lemmas.Tables.{all_tables}
use Rattle.zlinearizability.proofs.rows.cuts_come_before_events.Goals as goal

pub returns : goal.returns
unfolding all_tables
returns c = record {
  lost = refl;
  unheard = refl;
  sent = refl;
}
