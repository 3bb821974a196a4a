use Rattle.zcalls.proofs.Lasting.{lasts_until_removed}
use Rattle.zcalls.proofs.laws.the_unowned_last.Goals as goal

pub returns : goal.returns
returns c = lasts_until_removed
