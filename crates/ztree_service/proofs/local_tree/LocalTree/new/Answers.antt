use Rattle.std.proofs.Common.{false, ap, ◌∙◌}
use Rattle.zops.specs.Machine.{MachineView}
use Rattle.ztree_service.specs.Machines.{tree_in}
use Rattle.ztree_service.proofs.local_tree.LocalTree.new.Goals as goal

pub returns : goal.returns
returns c =
    c.of.ensures ∙ ap (λ (m : MachineView). record { tree = tree_in m; is_broken = false }) c.in_ok-machine.ensures.opening
