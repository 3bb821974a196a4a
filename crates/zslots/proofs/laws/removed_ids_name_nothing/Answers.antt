use Rattle.zslots.proofs.RunLaws.{removed-run}
use Rattle.zslots.proofs.laws.removed_ids_name_nothing.Goals as goal

pub returns : goal.returns
returns g c = removed-run
