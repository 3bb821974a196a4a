use Rattle.std.proofs.Common.{refl}
use Rattle.zprotocol.proofs.client_lemmas.Tables.{client_table}
use Rattle.zprotocol.proofs.client.rows.calls_are_retried.Goals as goal

pub returns : goal.returns
unfolding client_table
returns c = record {
  update = refl;
  query = refl;
  no_call = refl;
  no_tail = refl;
}
