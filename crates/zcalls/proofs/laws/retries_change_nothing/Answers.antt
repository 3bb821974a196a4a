use Rattle.zcalls.proofs.Retries.{retry_changes_nothing}
use Rattle.zcalls.proofs.laws.retries_change_nothing.Goals as goal

pub returns : goal.returns
returns g c = retry_changes_nothing
