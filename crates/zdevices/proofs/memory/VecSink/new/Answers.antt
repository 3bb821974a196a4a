use Rattle.std.proofs.Common.{refl}
use Rattle.zdevices.proofs.memory.VecSink.new.Goals as goal

pub returns-clause-at_most : goal.returns-clause-at_most
returns-clause-at_most c = refl
