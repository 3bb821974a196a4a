use Rattle.std.proofs.Common.{rules}
use Rattle.zdevices.proofs.memory.VecSinkSink.write.Goals as goal

pub returns-then-comes-clause-nothing : goal.returns-then-comes-clause-nothing
returns-then-comes-clause-nothing c = search rules
