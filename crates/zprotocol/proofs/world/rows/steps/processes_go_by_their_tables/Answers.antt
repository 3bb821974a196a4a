use Rattle.std.proofs.Common.{refl}
use Rattle.zprotocol.proofs.world_lemmas.Tables.{all_tables}
use Rattle.zprotocol.proofs.world.rows.steps.processes_go_by_their_tables.Goals as goal

pub returns : goal.returns
unfolding all_tables
returns c = record {
  call_is_reported = refl;
  call_is_sent = refl;
  again = refl;
  unseen = refl;
  answer = refl;
  strange_answer = refl;
  forwards = refl;
  moves = refl;
  order = refl;
  stops = refl;
  leaves = refl;
  by_the_master_alone = refl;
  notice = refl;
  takes_no_part = refl;
}
