use Rattle.std.proofs.Common.{rules}
use Rattle.zcalls.proofs.call_number.CallNumber.number.Goals as goal

pub returns-clause-same : goal.returns-clause-same
returns-clause-same c = search rules
