use Rattle.zcalls.proofs.Mortals.{set_puts_off}
use Rattle.zcalls.proofs.laws.a_set_puts_off.Goals as goal

pub returns : goal.returns
returns c = set_puts_off
