use Rattle.zwatches.proofs.Worked.{reports_who_waits}
use Rattle.zwatches.proofs.laws.who_waits_is_reported.Goals as goal

pub returns : goal.returns
returns c = reports_who_waits
