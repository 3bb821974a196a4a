use Rattle.std.proofs.Common.{rules}
use Rattle.zdevices.proofs.memory.SliceSource.failing_after.Goals as goal

pub returns : goal.returns
returns c = search rules
