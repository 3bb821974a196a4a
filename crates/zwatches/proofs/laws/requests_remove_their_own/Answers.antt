use Rattle.zwatches.proofs.Worked.{removes_own}
use Rattle.zwatches.proofs.laws.requests_remove_their_own.Goals as goal

pub returns : goal.returns
returns c = removes_own
