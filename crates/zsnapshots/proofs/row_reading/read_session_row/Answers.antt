use Rattle.std.proofs.Common.{arith}
use Rattle.zsnapshots.specs.Rows.{session_text}
use Rattle.zsnapshots.proofs.RowForms.{is_session_text, read_as_row}
use Rattle.zsnapshots.proofs.row_reading.read_session_row.Goals as goal

pub returns : goal.returns
returns c = read_as_row session_text is_session_text (λ v. ((v.0, v.1), v.2.now)) c.args.bytes.now c.session_row_in.result
    (λ i. omega (arith, c.type_inv.bytes i)) c.session_row_in.ensures.read c.session_row_in.ensures.fault
