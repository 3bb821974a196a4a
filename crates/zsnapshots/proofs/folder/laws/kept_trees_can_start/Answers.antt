use Rattle.zsnapshots.proofs.folder_lemmas.Starts.{can_start}
use Rattle.zsnapshots.proofs.folder.laws.kept_trees_can_start.Goals as goal

pub returns : goal.returns
returns c = can_start
