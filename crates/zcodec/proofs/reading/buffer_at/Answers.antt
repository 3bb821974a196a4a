use Rattle.std.proofs.Common.{rules}
use Rattle.zcodec.proofs.reading.buffer_at.Goals as goal

pub returns-in-None : goal.returns-in-None
returns-in-None c = search rules
