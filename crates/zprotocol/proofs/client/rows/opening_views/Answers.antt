use Rattle.std.proofs.Common.{refl}
use Rattle.zprotocol.proofs.client_lemmas.Tables.{client_table}
use Rattle.zprotocol.proofs.client.rows.opening_views.Goals as goal

pub returns : goal.returns
unfolding client_table
returns c = record {
  client = refl;
  nobody = refl;
}
