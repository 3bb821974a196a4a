use Rattle.std.proofs.Common.{rules}
use Rattle.zcodec.proofs.fault.ReadErrorFromFault.from.Goals as goal

pub returns : goal.returns
returns c = search rules
