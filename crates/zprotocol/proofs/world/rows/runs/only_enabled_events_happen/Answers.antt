use Rattle.std.proofs.Common.{refl}
use Rattle.zprotocol.proofs.world_lemmas.Tables.{all_tables}
use Rattle.zprotocol.proofs.world.rows.runs.only_enabled_events_happen.Goals as goal

pub returns : goal.returns
unfolding all_tables
returns c = record {
  busy_client = refl;
  strange_client = refl;
  nothing_to_retry = refl;
  empty_link = refl;
  server_message_is_not_ignored = refl;
  failed_taker = refl;
  failed_ignorer = refl;
  failed_twice = refl;
  spare_can_fail = refl;
  server_0_does_not_fail = refl;
  server_17_does_not_fail = refl;
  server_17_does_not_join = refl;
  server_16_joins = refl;
  member_joins = refl;
  spare_joins = refl;
  unchanged = refl;
  let_go = refl;
  view_is_let_go = refl;
}
