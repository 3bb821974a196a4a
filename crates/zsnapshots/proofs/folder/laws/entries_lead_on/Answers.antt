use Rattle.zsnapshots.proofs.folder_lemmas.States.{go_on, trees}
use Rattle.zsnapshots.proofs.folder.laws.entries_lead_on.Goals as goal

pub returns : goal.returns
returns c = record { on = go_on; tree = trees }
