use Rattle.zslots.specs.SlotsView.{empty_slots}
use Rattle.zslots.proofs.RunLaws.{run-no_two}
use Rattle.zslots.proofs.laws.ids_are_given_once.Goals as goal

pub returns : goal.returns
returns g c = λ s changes run. run-no_two empty_slots s changes run
