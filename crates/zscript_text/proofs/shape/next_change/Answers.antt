use Rattle.std.proofs.Common.{rules}
use Rattle.zscript_text.proofs.shape.next_change.Goals as goal

pub returns-in_default-clause-none : goal.returns-in_default-clause-none
returns-in_default-clause-none c = search rules
