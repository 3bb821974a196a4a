use Rattle.std.proofs.Common.{refl}
use Rattle.zscript_text.specs.Line.{line_of}
use Rattle.zscript_text.proofs.rows.event_lines.Goals as goal

pub returns-clause-server_zero : goal.returns-clause-server_zero
unfolding line_of
returns-clause-server_zero c = refl
