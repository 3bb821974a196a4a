use Rattle.std.proofs.Common.{rules}
use Rattle.zcalls.proofs.change.PartFromChange.from.Goals as goal

pub returns-in-Delete : goal.returns-in-Delete
returns-in-Delete c = search rules
