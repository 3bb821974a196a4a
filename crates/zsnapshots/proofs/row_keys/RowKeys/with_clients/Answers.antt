use Rattle.std.proofs.Common.{arith}
use Rattle.zsnapshots.proofs.Written.{few_applied}
use Rattle.zsnapshots.proofs.row_keys.RowKeys.with_clients.Goals as goal

pub returns-clause-keys : goal.returns-clause-keys
returns-clause-keys c = record {
  settled = c.paths.ensures.settled;
  few = few_applied c.args.is_alone c.args.machine.now.state (omega (arith, c.applied.ensures.applied, c.applied.ensures.few));
  sessions = c.in_ok-sessions.ensures;
  paths = c.in_ok-paths.ensures.paths;
  clients = c.requires.clients;
  few_clients = c.requires.few;
}
