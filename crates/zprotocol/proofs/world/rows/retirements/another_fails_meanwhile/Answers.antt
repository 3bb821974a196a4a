use Rattle.std.proofs.Common.{refl}
use Rattle.zprotocol.proofs.world_lemmas.Tables.{all_tables}
use Rattle.zprotocol.proofs.world.rows.retirements.another_fails_meanwhile.Goals as goal

pub returns : goal.returns
unfolding all_tables
returns c = record {
  stands = refl;
  chain = refl;
  done = refl;
  seen = refl;
}
