use Rattle.ztree_service.specs.Machines.{tree_in}
use Rattle.ztree_service.proofs.Stepping.{anew_ready}
use Rattle.ztree_service.proofs.step.make_room.Goals as goal

pub returns-clause-ready : goal.returns-clause-ready
returns-clause-ready c = anew_ready c.in_ok-machine.field-0 (tree_in c.args.machine.now) c.in_ok-machine.ensures
