use Rattle.std.proofs.Common.{refl}
use Rattle.zscript.proofs.rows.lines.lines.Goals as goal

pub returns-clause-two_lines : goal.returns-clause-two_lines
returns-clause-two_lines c = refl

pub returns-clause-empty_lines : goal.returns-clause-empty_lines
returns-clause-empty_lines c = refl

pub returns-clause-one_whole_line : goal.returns-clause-one_whole_line
returns-clause-one_whole_line c = refl

pub returns-clause-no_whole_line : goal.returns-clause-no_whole_line
returns-clause-no_whole_line c = refl
