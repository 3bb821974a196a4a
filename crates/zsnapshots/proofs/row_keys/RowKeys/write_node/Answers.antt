use Rattle.std.proofs.Common.{ap, ◌∙◌}
use Rattle.ztree.proofs.Sorted.{paths_total}
use Rattle.zsnapshots.specs.States.{KeysView, nodes_of}
use Rattle.zsnapshots.specs.States.StateRow.{OfNode}
use Rattle.zsnapshots.proofs.Places.{entry_at, entry_there_at}
use Rattle.zsnapshots.proofs.Written.{item_ok, none_there}
use Rattle.zsnapshots.proofs.row_keys.RowKeys.write_node.Goals as goal

pub unreachable-requires : goal.unreachable-requires
unreachable-requires c =
    let m = c.args.machine.now.state.service.plain.nodes in
    let keys = ap (λ (v : KeysView). v.paths) c.self.view_is ∙ c.requires.keys.paths in
    entry_there_at paths_total m c.self.inside.paths.items c.args.place c.index-path.result.now keys c.requires.within
    c.index-path.ensures (none_there _ c.in-None.ensures.there)

pub returns-clause-ok : goal.returns-clause-ok
returns-clause-ok c =
    let m = c.args.machine.now.state.service.plain.nodes in
    let keys = ap (λ (v : KeysView). v.paths) c.self.view_is ∙ c.requires.keys.paths in
    let at = entry_at paths_total m c.self.inside.paths.items c.args.place c.index-path.result.now keys c.requires.within
    c.index-path.ensures c.in-Some.node.now (c.in-Some.ensures.node) in
    item_ok OfNode (nodes_of c.args.machine.now.state) c.args.place c.args.out.now.items c.write_node_row.new.out.items
    c.write_node_row.result (c.index-path.result.now, c.in-Some.node.now) at c.write_node_row.ensures.ok (c.write_node_row.ensures.fits)
