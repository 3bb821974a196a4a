use Rattle.std.proofs.Common.{rules}
use Rattle.ztesting.proofs.numbers.epoch.Goals as goal

pub returns : goal.returns
returns c = search rules
