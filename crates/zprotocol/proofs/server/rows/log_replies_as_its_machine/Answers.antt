use Rattle.std.proofs.Common.{refl}
use Rattle.zprotocol.proofs.server_lemmas.Tables.{server_table}
use Rattle.zprotocol.proofs.server.rows.log_replies_as_its_machine.Goals as goal

pub returns : goal.returns
unfolding server_table
returns c = record {
  replayed = refl;
  starts_empty = refl;
  keeps_an_entry = refl;
  keeps_an_entry_without_reply = refl;
  asks_the_machine = refl;
  goes_by_the_table = refl;
}
