use Rattle.std.proofs.Common.{sym}
use Rattle.zscript_text.proofs.Numerals.{number_of-unread}
use Rattle.zscript_text.proofs.words.number.Goals as goal

pub returns-in_default-parse : goal.returns-in_default-parse
returns-in_default-parse c =
    sym (number_of-unread c.args.word.now c.parse.result _ c.parse.ensures.value.0 (sym c.if-not-has_digits_alone.ensures) (sym c.if-has_leading_zero.ensures) c.in_default-parse.is)
