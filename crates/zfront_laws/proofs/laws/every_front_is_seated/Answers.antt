use Rattle.zfront_laws.proofs.Inputs.{every_front_is_seated}
use Rattle.zfront_laws.proofs.laws.every_front_is_seated.Goals as goal

pub returns : goal.returns
returns c = every_front_is_seated
