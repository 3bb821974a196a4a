use Rattle.zwatches.proofs.Within.{shares_are_apart}
use Rattle.zwatches.proofs.laws.shares_are_apart.Goals as goal

pub returns : goal.returns
returns c = shares_are_apart
