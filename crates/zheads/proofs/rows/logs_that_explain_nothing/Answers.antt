use Rattle.zheads.proofs.OneLogs.{missing, reply, invented, two_logs, stale_query, stale_update}
use Rattle.zheads.proofs.rows.logs_that_explain_nothing.Goals as goal

pub returns : goal.returns
returns c = record {
  missing = missing;
  reply = reply;
  invented = invented;
  two_logs = two_logs;
  stale_query = stale_query;
  stale_update = stale_update;
}
