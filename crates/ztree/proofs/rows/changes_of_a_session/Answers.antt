use Rattle.std.proofs.Common.{refl}
use Rattle.ztree.proofs.rows.changes_of_a_session.Goals as goal

pub returns-clause-opened : goal.returns-clause-opened
returns-clause-opened c = refl

pub returns-clause-renewed : goal.returns-clause-renewed
returns-clause-renewed c = refl
