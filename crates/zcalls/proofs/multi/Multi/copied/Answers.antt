use Rattle.std.proofs.Common.{rules}
use Rattle.zcalls.proofs.multi.Multi.copied.Goals as goal

pub returns : goal.returns
returns c = search rules
