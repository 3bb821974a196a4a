use Rattle.std.proofs.Common.{arith}
use Rattle.zsnapshots.specs.Rows.{reply_text, kept_of}
use Rattle.zsnapshots.proofs.RowForms.{is_reply_text, read_as_row}
use Rattle.zsnapshots.proofs.row_reading.read_reply_row.Goals as goal

pub returns : goal.returns
returns c = read_as_row reply_text is_reply_text (λ v. ((v.0, kept_of v.1 v.2), v.3.now)) c.args.bytes.now c.reply_row_in.result
    (λ i. omega (arith, c.type_inv.bytes i)) c.reply_row_in.ensures.read c.reply_row_in.ensures.fault
