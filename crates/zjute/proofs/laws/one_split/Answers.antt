use Rattle.zjute.proofs.Cutting.{one}
use Rattle.zjute.proofs.laws.one_split.Goals as goal

pub returns : goal.returns
returns c = one
