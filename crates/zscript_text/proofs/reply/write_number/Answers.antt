use Rattle.std.proofs.Common.{arith, refl}
use Rattle.std.proofs.lemmas.Fmt.{decimal_digit}
use Rattle.zscript_text.proofs.reply.write_number.Goals as goal

pub returns-in_ok-push : goal.returns-in_ok-push
returns-in_ok-push c =
    let small = c.if-number-lt10.true in
    let glyph = c.from.ensures in
    let one = c.in_ok-push.ensures.ascii (omega (arith, small, glyph)) in
    rw (c.in_ok-push.ensures.bytes, one, glyph, decimal_digit c.args.number small) refl
