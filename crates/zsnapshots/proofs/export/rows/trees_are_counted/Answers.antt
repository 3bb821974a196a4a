use Rattle.std.specs.List.{count_by, sum_by}
use Rattle.std.proofs.Common.{ap}
use Rattle.zsnapshots.specs.export.Counts.{bytes_of, has_counted, is_ephemeral}
use Rattle.zsnapshots.proofs.export_lemmas.Worked.{no_sessions, one_session, opening_len, opening_rows, owned_len, owned_rows, timed_len, timed_rows}
use Rattle.zsnapshots.proofs.export.rows.trees_are_counted.Goals as goal

pub returns-clause-opening : goal.returns-clause-opening
returns-clause-opening c = λ i. record {
  nodes = opening_len i;
  bytes = ap (sum_by bytes_of) opening_rows i;
  ephemerals = ap (count_by is_ephemeral) opening_rows i;
  counters = ap (count_by has_counted) opening_rows i;
  sessions = no_sessions i;
  changes = 0;
  ticks = 0;
}

pub returns-clause-timed : goal.returns-clause-timed
returns-clause-timed c = λ i. record {
  nodes = timed_len i;
  bytes = ap (sum_by bytes_of) timed_rows i;
  ephemerals = ap (count_by is_ephemeral) timed_rows i;
  counters = ap (count_by has_counted) timed_rows i;
  sessions = no_sessions i;
  changes = 40;
  ticks = 30;
}

pub returns-clause-owned : goal.returns-clause-owned
returns-clause-owned c = λ i. record {
  nodes = owned_len i;
  bytes = ap (sum_by bytes_of) owned_rows i;
  ephemerals = ap (count_by is_ephemeral) owned_rows i;
  counters = ap (count_by has_counted) owned_rows i;
  sessions = one_session i;
  changes = 40;
  ticks = 30;
}
