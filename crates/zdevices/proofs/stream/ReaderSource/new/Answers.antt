use Rattle.std.proofs.Common.{refl}
use Rattle.zdevices.proofs.stream.ReaderSource.new.Goals as goal

pub returns-clause-budget : goal.returns-clause-budget
returns-clause-budget g c = refl
