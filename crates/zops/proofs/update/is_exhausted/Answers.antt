use Rattle.std.proofs.Common.{refl}
use Rattle.zops.proofs.update.is_exhausted.Goals as goal

pub returns-in-Ping : goal.returns-in-Ping
returns-in-Ping c = rw c.in-Ping.is refl
