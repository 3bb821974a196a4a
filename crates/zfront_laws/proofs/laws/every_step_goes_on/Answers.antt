use Rattle.zfront_laws.proofs.Inputs.{every_step_goes_on}
use Rattle.zfront_laws.proofs.laws.every_step_goes_on.Goals as goal

pub returns : goal.returns
returns c = every_step_goes_on
