use Rattle.std.proofs.Common.{refl}
use Rattle.zprotocol.proofs.client_lemmas.Tables.{client_table}
use Rattle.zprotocol.proofs.client.rows.calls_begin.Goals as goal

pub returns : goal.returns
unfolding client_table
returns c = record {
  first_call = refl;
  update = refl;
  query = refl;
  no_head = refl;
  allowed = refl;
  busy = refl;
  exhausted = refl;
  busy_before_exhausted = refl;
  last_number = refl;
}
