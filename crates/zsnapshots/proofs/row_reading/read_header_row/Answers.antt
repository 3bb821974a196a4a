use Rattle.std.proofs.Common.{arith}
use Rattle.zsnapshots.specs.Rows.{header_text}
use Rattle.zsnapshots.proofs.RowForms.{is_header, read_as_row}
use Rattle.zsnapshots.proofs.row_reading.read_header_row.Goals as goal

pub returns : goal.returns
returns c = read_as_row header_text is_header (λ v. (v.0, v.1.now)) c.args.bytes.now c.header_row_in.result
    (λ i. omega (arith, c.type_inv.bytes i)) c.header_row_in.ensures.read c.header_row_in.ensures.fault
