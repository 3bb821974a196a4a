use Rattle.std.proofs.Common.{rules}
use Rattle.zcalls.proofs.multi.Multi.as_slice.Goals as goal

pub returns-clause-parts : goal.returns-clause-parts
returns-clause-parts c = search rules
