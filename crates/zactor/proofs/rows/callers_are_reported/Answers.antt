use Rattle.std.proofs.Common.{refl}
use Rattle.zprotocol.specs.client.Table.{answer_row, begin_step, client_step}
use Rattle.zactor.proofs.rows.callers_are_reported.Goals as goal

pub returns : goal.returns
unfolding begin_step client_step answer_row
returns c = record {
  begun = refl;
  begun_by_definition = refl;
  answered = refl;
  answered_by_definition = refl;
  stale = refl;
  retried = refl;
  of_the_master = refl;
}
