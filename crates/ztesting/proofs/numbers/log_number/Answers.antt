use Rattle.std.proofs.Common.{rules}
use Rattle.ztesting.proofs.numbers.log_number.Goals as goal

pub returns : goal.returns
returns c = search rules
