use Rattle.std.proofs.Common.{rules}
use Rattle.zserver.proofs.neighbour.is_neighbour.Goals as goal

pub returns-then-number : goal.returns-then-number
returns-then-number c = search rules
