use Rattle.std.proofs.Common.{map, subst}
use Rattle.zthreads.specs.Owned.{master_endpoint}
use Rattle.zrun.specs.Origins.{client_endpoints}
use Rattle.zrun.specs.Handles.{given_master, given_server}
use Rattle.zrun.specs.Runs.{AreLeftBy, IsLeftBy}
use Rattle.zrun.proofs.Leavings.{left_by}
use Rattle.zrun.proofs.Pairs.{pairs_both}
use Rattle.zrun.proofs.cluster.Cluster.leave.Goals as goal

pub returns-clause-left : goal.returns-clause-left
returns-clause-left g c =
    let s = c.args.self in
    let m = c.into_ending.result in
    let ss = c.join_servers-servers.result.items in
    let cs = c.in-Ok-end_clients.clients.items in
    let of_run = subst (λ r. AreLeftBy (client_endpoints r) cs) c.requires.own c.in-Ok-end_clients.ensures.left in (
      left_by (given_master s.master) (master_endpoint c.join-chief.result.0) m c.join-chief.ensures c.into_ending.ensures.ended
          c.into_ending.ensures.wires c.into_ending.ensures.untraced,
      pairs_both IsLeftBy (map given_server s.servers.items) ss (client_endpoints s.run.value.items) cs c.join_servers-servers.ensures.left of_run,
    )
