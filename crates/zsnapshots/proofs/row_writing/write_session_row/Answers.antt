use Rattle.std.proofs.Common.{◌++◌, ap, ◌∙◌, length, arith}
use Rattle.zsnapshots.specs.Rows.{session_text}
use Rattle.zsnapshots.proofs.RowForms.{on_ok}
use Rattle.zsnapshots.proofs.Short.{session-short}
use Rattle.zsnapshots.proofs.row_writing.write_session_row.Goals as goal

pub put_sized-requires : goal.put_sized-requires
put_sized-requires c =
    let text = session_text.spell (c.args.id, c.args.session) in
    let same = c.deref.ensures.value ∙ c.in_ok-put_session_text.ensures.text ∙ ap (λ front. front ++ text) c.new-text.ensures.items in
    let long = ap length same in
    let short = session-short (c.args.id, c.args.session) in
    omega (arith, long, short)

pub returns-clause-fits : goal.returns-clause-fits
returns-clause-fits c =
    let short = session-short (c.args.id, c.args.session) in
    on_ok _ c.put_sized.result (c.in_ok-put_session_text.ensures.fits, omega (arith, short))
