use Rattle.std.proofs.Common.{refl}
use Rattle.zdevices.proofs.stream.WriterSink.new.Goals as goal

pub returns-clause-writer : goal.returns-clause-writer
returns-clause-writer g c = refl
