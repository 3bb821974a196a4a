use Rattle.zsnapshots.proofs.Short.{rows_short}
use Rattle.zsnapshots.proofs.laws.rows_are_short.Goals as goal

pub returns : goal.returns
returns c = rows_short
