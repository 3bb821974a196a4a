use Rattle.zfront_laws.proofs.Inputs.{stays_as_it_began}
use Rattle.zfront_laws.proofs.laws.stays_as_it_began.Goals as goal

pub returns : goal.returns
returns c = stays_as_it_began
