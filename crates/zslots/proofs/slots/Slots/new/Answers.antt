use Rattle.std.proofs.Common.{rules}
use Rattle.zslots.proofs.slots.Slots.new.Goals as goal

pub returns : goal.returns
returns g c = search rules
