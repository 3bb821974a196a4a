use Rattle.std.proofs.Common.{refl}
use Rattle.zscript_text.specs.Line.{line_of}
use Rattle.zscript_text.proofs.rows.lines.Goals as goal

pub returns-clause-lone_check : goal.returns-clause-lone_check
unfolding line_of
returns-clause-lone_check c = refl
