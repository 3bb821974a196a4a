use Rattle.std.proofs.Common.{rules}
use Rattle.zcalls.proofs.call.Lifetime.owner.Goals as goal

pub returns-in-Persistent : goal.returns-in-Persistent
returns-in-Persistent c = search rules
