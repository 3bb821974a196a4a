use Rattle.zcalls.proofs.Mortals.{tick_removes_the_stale}
use Rattle.zcalls.proofs.laws.a_tick_removes_the_stale.Goals as goal

pub returns : goal.returns
returns c = tick_removes_the_stale
