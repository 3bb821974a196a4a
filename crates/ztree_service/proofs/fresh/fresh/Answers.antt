use Rattle.std.proofs.Common.{length, false, sym, ap, subst, ◌∙◌, arith}
use Rattle.std.specs.FinMap.{entries}
use Rattle.zops.specs.Machine.{MachineState}
use Rattle.zops.specs.RestoredLaws.{CanPutAllGranted}
use Rattle.zops.specs.Restored.{with_plain}
use Rattle.zstore.specs.Restored.{with_session_rows}
use Rattle.ztree_service.specs.Machines.{tree_in}
use Rattle.ztree_service.proofs.Anew.{nodes_all, nodes_none, paths_are, paths_below, sessions_can}
use Rattle.ztree_service.proofs.fresh.fresh.Goals as goal

pub remove-requires : goal.remove-requires
remove-requires c =
    let t = tree_in c.args.machine.now in
    let long = ap length (c.in_ok-paths.ensures.paths ∙ paths_are t c.paths.ensures.settled) in
    omega (arith, long)

pub put_sessions-requires-clause-can : goal.put_sessions-requires-clause-can
put_sessions-requires-clause-can c =
    let t = tree_in c.args.machine.now in
    let rooted = c.in_ok-restoring.ensures in
    subst (λ (m : MachineState). CanPutAllGranted m.service.plain (entries t.sessions)) (sym rooted.2)
    (sessions_can t c.paths.ensures.settled rooted.0 rooted.1)

pub put_nodes-requires-clause-left : goal.put_nodes-requires-clause-left
put_nodes-requires-clause-left c =
    let t = tree_in c.args.machine.now in
    let rooted = c.in_ok-restoring.ensures in
    nodes_all t c.paths.ensures.settled rooted.0 rooted.1 c.put_sessions.new.restoring c.remove.new.self.items
    (c.in_ok-put_sessions.ensures ∙ ap (λ (m : MachineState). with_plain m (with_session_rows m.service.plain (entries t.sessions))) rooted.2)
    (paths_below t c.paths.ensures.settled c.in_ok-paths.paths.items c.remove.new.self.items c.in_ok-paths.ensures.paths c.remove.ensures.by_index.2)

pub returns : goal.returns
returns c =
    c.finish.ensures.state
    ∙ ap (λ (m : MachineState). record { state = m; is_broken = false }) (nodes_none (tree_in c.args.machine.now)
    c.put_nodes.new.restoring c.in_ok-put_nodes.ensures)
