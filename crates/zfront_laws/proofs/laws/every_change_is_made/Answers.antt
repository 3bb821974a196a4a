use Rattle.zfront_laws.proofs.Inputs.{every_change_is_made}
use Rattle.zfront_laws.proofs.laws.every_change_is_made.Goals as goal

pub returns : goal.returns
returns c = every_change_is_made
