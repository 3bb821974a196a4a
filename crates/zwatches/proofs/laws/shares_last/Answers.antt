use Rattle.zwatches.proofs.Within.{shares_last}
use Rattle.zwatches.proofs.laws.shares_last.Goals as goal

pub returns : goal.returns
returns c = shares_last
