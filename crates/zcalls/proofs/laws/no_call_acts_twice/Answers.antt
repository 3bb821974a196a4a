use Rattle.zcalls.proofs.Acting.{acted_once}
use Rattle.zcalls.proofs.laws.no_call_acts_twice.Goals as goal

pub returns : goal.returns
returns g c = acted_once
