use Rattle.zmaster_log.proofs.Parts.{parts_are_one}
use Rattle.zmaster_log.proofs.laws.parts_are_one.Goals as goal

pub returns : goal.returns
returns g c = parts_are_one
