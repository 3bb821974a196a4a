use Rattle.std.proofs.Common.{rules}
use Rattle.zcodec.proofs.reading.length_at.Goals as goal

pub returns : goal.returns
returns c = search rules
