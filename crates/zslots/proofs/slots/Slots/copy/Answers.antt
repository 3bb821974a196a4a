use Rattle.std.proofs.Common.{rules}
use Rattle.zslots.proofs.slots.Slots.copy.Goals as goal

pub returns-clause-given : goal.returns-clause-given
returns-clause-given g c = search rules
