use Rattle.std.proofs.Common.{rules}
use Rattle.zdevices.proofs.memory.VecSink.bytes.Goals as goal

pub returns : goal.returns
returns c = search rules
