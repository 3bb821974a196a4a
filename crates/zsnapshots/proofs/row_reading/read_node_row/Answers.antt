use Rattle.std.proofs.Common.{arith}
use Rattle.zsnapshots.specs.Rows.{node_text}
use Rattle.zsnapshots.proofs.RowForms.{is_node_text, read_as_row}
use Rattle.zsnapshots.proofs.row_reading.read_node_row.Goals as goal

pub returns : goal.returns
returns c = read_as_row node_text is_node_text (λ v. ((v.0, v.1), v.2.now)) c.args.bytes.now c.node_row_in.result
    (λ i. omega (arith, c.type_inv.bytes i)) c.node_row_in.ensures.read c.node_row_in.ensures.fault
