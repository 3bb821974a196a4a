use Rattle.zguard_laws.proofs.Inner.{inner_steps}
use Rattle.zguard_laws.proofs.laws.every_guarded_front_is_a_front.Goals as goal

pub returns : goal.returns
returns c = inner_steps
