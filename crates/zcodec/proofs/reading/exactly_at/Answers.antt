use Rattle.std.proofs.Common.{rules}
use Rattle.zcodec.proofs.reading.exactly_at.Goals as goal

pub returns : goal.returns
returns c = search rules
