use Rattle.std.proofs.Common.{◌≡◌, true, false, Some, sym, ap, subst, ◌∙◌}
use Rattle.std.specs.FinMap.{get}
use Rattle.ztree.proofs.Maps.{is_there}
use Rattle.ztree_service.specs.Machines.{tree_in}
use Rattle.ztree_service.specs.support.Tables.{NodesAreLeft}
use Rattle.ztree_service.proofs.Anew.{node_can, node_next, node_there}
use Rattle.ztree_service.proofs.fresh.put_nodes.Goals as goal

pub unreachable-requires : goal.unreachable-requires
unreachable-requires c =
    let t = tree_in c.args.machine.now in
    let left = subst (NodesAreLeft t c.loop-path.restoring) c.in-Some.ensures.steps.0 c.loop-path.invariant in
    let there = node_there t c.loop-path.restoring c.in-Some.path c.next.new.self.rest.items left in
    let clash : false ≡ true = c.in_default.ensures.there ∙ is_there (get t.nodes c.in-Some.path) there.0 there.1 in
    cc clash

pub memory-requires : goal.memory-requires
memory-requires c =
    let t = tree_in c.args.machine.now in
    let left = subst (NodesAreLeft t c.loop-path.restoring) c.in-Some.ensures.steps.0 c.loop-path.invariant in
    let found = rw c.in-Some-node.is at c.node.ensures.node in
    let got = found ∙ ap Some (sym c.in_ok-node.ensures) in
    c.in-Err.ensures.fault
    (node_can t c.loop-path.restoring c.in-Some.path c.next.new.self.rest.items c.in_ok-node.node got left)

pub loop-path-preserved : goal.loop-path-preserved
loop-path-preserved c =
    let t = tree_in c.args.machine.now in
    let left = subst (NodesAreLeft t c.loop-path.restoring) c.in-Some.ensures.steps.0 c.loop-path.invariant in
    let found = rw c.in-Some-node.is at c.node.ensures.node in
    let got = found ∙ ap Some (sym c.in_ok-node.ensures) in
    node_next t c.loop-path.restoring c.in-Some.path c.next.new.self.rest.items c.in_ok-node.node got c.put_node.new.self left
    c.in_default-put_node.ensures.state
