use Rattle.std.proofs.Common.{rules}
use Rattle.zcodec.specs.Forms.{number_at}
use Rattle.zcodec.proofs.reading.u8_at.Goals as goal

pub returns-in-Some : goal.returns-in-Some
unfolding number_at
returns-in-Some c = search rules
