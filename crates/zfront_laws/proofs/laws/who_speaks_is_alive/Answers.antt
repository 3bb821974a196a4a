use Rattle.zfront_laws.proofs.Inputs.{who_speaks_is_alive}
use Rattle.zfront_laws.proofs.laws.who_speaks_is_alive.Goals as goal

pub returns : goal.returns
returns c = who_speaks_is_alive
