use Rattle.zcalls.proofs.Mortals.{nobody_owns_the_timed}
use Rattle.zcalls.proofs.laws.nobody_owns_the_timed.Goals as goal

pub returns : goal.returns
returns c = nobody_owns_the_timed
