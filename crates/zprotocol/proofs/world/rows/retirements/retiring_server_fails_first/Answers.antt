use Rattle.std.proofs.Common.{refl}
use Rattle.zprotocol.proofs.world_lemmas.Tables.{all_tables}
use Rattle.zprotocol.proofs.world.rows.retirements.retiring_server_fails_first.Goals as goal

pub returns : goal.returns
unfolding all_tables
returns c = record {
  not_taken = refl;
  stands = refl;
  gone = refl;
  done = refl;
  next = refl;
  seen = refl;
}
