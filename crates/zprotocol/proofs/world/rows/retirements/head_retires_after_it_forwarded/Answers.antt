use Rattle.std.proofs.Common.{refl}
use Rattle.zprotocol.proofs.world_lemmas.Tables.{all_tables}
use Rattle.zprotocol.proofs.world.rows.retirements.head_retires_after_it_forwarded.Goals as goal

pub returns : goal.returns
unfolding all_tables
returns c = record {
  ordered = refl;
  serves = refl;
  gone = refl;
  failed = refl;
  takes_nothing_more = refl;
  fails_no_more = refl;
  reported = refl;
  head = refl;
  seen = refl;
}
