use Rattle.zscript_text.proofs.OneNumeral.{reads_decimal, is_decimal}
use Rattle.zscript_text.proofs.laws.number_is_decimal.Goals as goal

pub returns-clause-reads : goal.returns-clause-reads
returns-clause-reads c = reads_decimal

pub returns-clause-one_word : goal.returns-clause-one_word
returns-clause-one_word c = is_decimal
