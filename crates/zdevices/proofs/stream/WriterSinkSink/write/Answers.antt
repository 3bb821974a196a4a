use Rattle.std.proofs.Common.{rules}
use Rattle.zdevices.proofs.stream.WriterSinkSink.write.Goals as goal

pub returns-clause-took : goal.returns-clause-took
returns-clause-took g c = search rules
