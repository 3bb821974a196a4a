use Rattle.std.proofs.Common.{◌++◌, ap, ◌∙◌, length, arith}
use Rattle.zsnapshots.specs.Rows.{header_text}
use Rattle.zsnapshots.proofs.RowForms.{on_ok}
use Rattle.zsnapshots.proofs.Short.{header-short}
use Rattle.zsnapshots.proofs.row_writing.write_header_row.Goals as goal

pub put_sized-requires : goal.put_sized-requires
put_sized-requires c =
    let text = header_text.spell (c.args.header) in
    let same = c.deref.ensures.value ∙ c.in_ok-put_header_text.ensures.text ∙ ap (λ front. front ++ text) c.new-text.ensures.items in
    let long = ap length same in
    let short = header-short (c.args.header) in
    omega (arith, long, short)

pub returns-clause-fits : goal.returns-clause-fits
returns-clause-fits c =
    let short = header-short (c.args.header) in
    on_ok _ c.put_sized.result (c.in_ok-put_header_text.ensures.fits, omega (arith, short))
