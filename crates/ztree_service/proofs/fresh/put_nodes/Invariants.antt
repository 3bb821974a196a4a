use Rattle.ztree_service.specs.Machines.{tree_in}
use Rattle.ztree_service.specs.support.Tables.{NodesAreLeft}
use Rattle.ztree_service.proofs.fresh.put_nodes.Given as goal

-- the nodes that weren't gone over are still to be put
abbrev pub invariant-loop-path : goal.invariant-loop-path
invariant-loop-path l = NodesAreLeft (tree_in l.machine) l.restoring l.path-iterator.rest.items
