use Rattle.std.proofs.Common.{refl}
use Rattle.zprotocol.proofs.world_lemmas.Tables.{all_tables}
use Rattle.zprotocol.proofs.world.rows.settling.settling_has_a_limit.Goals as goal

pub returns : goal.returns
unfolding all_tables
returns c = record {
  none = refl;
  none_is_limit = refl;
  some = refl;
  exact = refl;
  one_more = refl;
}
