use Rattle.zfront_laws.proofs.Inputs.{every_step_makes_more}
use Rattle.zfront_laws.proofs.laws.every_step_makes_more.Goals as goal

pub returns : goal.returns
returns c = every_step_makes_more
