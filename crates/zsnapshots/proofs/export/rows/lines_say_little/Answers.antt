use Rattle.std.proofs.Common.{refl}
use Rattle.zsnapshots.proofs.export.rows.lines_say_little.Goals as goal

pub returns-clause-nothing : goal.returns-clause-nothing
returns-clause-nothing c = refl

pub returns-clause-owned : goal.returns-clause-owned
returns-clause-owned c = refl

pub returns-clause-some : goal.returns-clause-some
returns-clause-some c = refl
