use Rattle.std.proofs.Common.{refl}
use Rattle.zprotocol.proofs.world_lemmas.Tables.{all_tables}
use Rattle.zprotocol.proofs.world.rows.settling.settling_goes_link_by_link.Goals as goal

pub returns : goal.returns
unfolding all_tables
returns c = record {
  events = refl;
  quiet = refl;
  seen = refl;
}
