use Rattle.std.proofs.Common.{refl}
use Rattle.zdevices.proofs.memory.SliceSource.new.Goals as goal

pub returns-clause-left : goal.returns-clause-left
returns-clause-left c = refl
