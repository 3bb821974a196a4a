use Rattle.std.proofs.Common.{rules}
use Rattle.znodes.proofs.row.Row.live.Goals as goal

pub returns-in-Some : goal.returns-in-Some
returns-in-Some c = search rules
