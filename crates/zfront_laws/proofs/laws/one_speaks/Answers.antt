use Rattle.zfront_laws.proofs.Seated.{one_speaks}
use Rattle.zfront_laws.proofs.laws.one_speaks.Goals as goal

pub returns : goal.returns
returns c = one_speaks
