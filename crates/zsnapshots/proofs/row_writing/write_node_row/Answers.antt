use Rattle.std.proofs.Common.{◌++◌, ap, ◌∙◌, length, arith}
use Rattle.zsnapshots.specs.Rows.{node_text}
use Rattle.zsnapshots.proofs.RowForms.{on_ok}
use Rattle.zsnapshots.proofs.Short.{node-short}
use Rattle.zsnapshots.proofs.row_writing.write_node_row.Goals as goal

pub put_sized-requires : goal.put_sized-requires
put_sized-requires c =
    let text = node_text.spell (c.args.path.now, c.args.node.now) in
    let same = c.deref.ensures.value ∙ c.in_ok-put_node_text.ensures.text ∙ ap (λ front. front ++ text) c.new-text.ensures.items in
    let long = ap length same in
    let short = node-short (c.args.path.now, c.args.node.now) c.in_ok-put_node_text.ensures.fits in
    omega (arith, long, short)

pub returns-clause-fits : goal.returns-clause-fits
returns-clause-fits c =
    let short = node-short (c.args.path.now, c.args.node.now) c.in_ok-put_node_text.ensures.fits in
    on_ok _ c.put_sized.result (c.in_ok-put_node_text.ensures.fits, omega (arith, short))
