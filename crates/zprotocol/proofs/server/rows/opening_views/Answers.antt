use Rattle.std.proofs.Common.{refl}
use Rattle.zprotocol.proofs.server_lemmas.Tables.{server_table}
use Rattle.zprotocol.proofs.server.rows.opening_views.Goals as goal

pub returns : goal.returns
unfolding server_table
returns c = record {
  first = refl;
  second = refl;
  third = refl;
  fourth = refl;
  only = refl;
  empty_log = refl;
}
