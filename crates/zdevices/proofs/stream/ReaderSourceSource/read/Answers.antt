use Rattle.std.proofs.Common.{rules}
use Rattle.zdevices.proofs.stream.ReaderSourceSource.read.Goals as goal

pub returns-clause-end : goal.returns-clause-end
returns-clause-end g c = search rules
