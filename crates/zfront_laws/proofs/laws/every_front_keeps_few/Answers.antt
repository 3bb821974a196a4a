use Rattle.zfront_laws.proofs.Inputs.{every_front_keeps_few}
use Rattle.zfront_laws.proofs.laws.every_front_keeps_few.Goals as goal

pub returns : goal.returns
returns c = every_front_keeps_few
