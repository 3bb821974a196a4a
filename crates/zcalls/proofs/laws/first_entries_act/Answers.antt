use Rattle.zcalls.proofs.Acting.{first_entries_act}
use Rattle.zcalls.proofs.laws.first_entries_act.Goals as goal

pub returns : goal.returns
returns g c = first_entries_act
