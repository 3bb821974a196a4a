use Rattle.std.proofs.Common.{rules}
use Rattle.zcalls.proofs.call.Query.copied.Goals as goal

pub returns-in_ok-clone-in-Exists : goal.returns-in_ok-clone-in-Exists
returns-in_ok-clone-in-Exists c = search rules
