use Rattle.std.proofs.Common.{◌++◌, ap, ◌∙◌, length, arith}
use Rattle.zsnapshots.specs.Rows.{reply_text, kept_of}
use Rattle.zsnapshots.proofs.RowForms.{on_ok}
use Rattle.zsnapshots.proofs.Short.{reply-short}
use Rattle.zsnapshots.proofs.row_writing.write_reply_row.Goals as goal

pub put_sized-requires : goal.put_sized-requires
put_sized-requires c =
    let text = reply_text.spell (c.args.client, kept_of c.args.number c.args.reply.now) in
    let same = c.deref.ensures.value ∙ c.in_ok-put_reply_text.ensures.text ∙ ap (λ front. front ++ text) c.new-text.ensures.items in
    let long = ap length same in
    let short = reply-short (c.args.client, kept_of c.args.number c.args.reply.now) c.in_ok-put_reply_text.ensures.fits c.requires in
    omega (arith, long, short)

pub returns-clause-fits : goal.returns-clause-fits
returns-clause-fits c =
    let short = reply-short (c.args.client, kept_of c.args.number c.args.reply.now) c.in_ok-put_reply_text.ensures.fits c.requires in
    on_ok _ c.put_sized.result (c.in_ok-put_reply_text.ensures.fits, omega (arith, short))
