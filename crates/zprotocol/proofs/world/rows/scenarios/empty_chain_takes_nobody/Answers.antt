use Rattle.std.proofs.Common.{refl}
use Rattle.zprotocol.proofs.world_lemmas.Tables.{all_tables}
use Rattle.zprotocol.proofs.world.rows.scenarios.empty_chain_takes_nobody.Goals as goal

pub returns : goal.returns
unfolding all_tables
returns c = record {
  no_chain = refl;
  used = refl;
}
