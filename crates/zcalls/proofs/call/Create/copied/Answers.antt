use Rattle.std.proofs.Common.{rules}
use Rattle.zcalls.proofs.call.Create.copied.Goals as goal

pub returns : goal.returns
returns c = search rules
