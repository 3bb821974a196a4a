use Rattle.std.proofs.Common.{refl}
use Rattle.std.specs.Fmt.{digits}
use Rattle.zscript_text.proofs.rows.replies.Goals as goal

pub returns-clause-stat : goal.returns-clause-stat
unfolding digits
returns-clause-stat c = refl

pub returns-clause-opened : goal.returns-clause-opened
unfolding digits
returns-clause-opened c = refl

pub returns-clause-ticked : goal.returns-clause-ticked
unfolding digits
returns-clause-ticked c = refl

pub returns-clause-removed : goal.returns-clause-removed
unfolding digits
returns-clause-removed c = refl
