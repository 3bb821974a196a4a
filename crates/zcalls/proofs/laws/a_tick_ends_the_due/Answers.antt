use Rattle.zcalls.proofs.Sessions.{tick_ends_the_due}
use Rattle.zcalls.proofs.laws.a_tick_ends_the_due.Goals as goal

pub returns : goal.returns
returns c = tick_ends_the_due
