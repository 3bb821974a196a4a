use Rattle.zwatches.proofs.Within.{limits_are_kept}
use Rattle.zwatches.proofs.laws.limits_are_kept.Goals as goal

pub returns : goal.returns
returns c = limits_are_kept
