use Rattle.zsnapshots.proofs.folder_lemmas.Apart.{nothing_is, snapshots_keep, texts_go_on}
use Rattle.zsnapshots.proofs.folder.laws.texts_go_on.Goals as goal

pub returns : goal.returns
returns c = record { nothing = nothing_is; snapshot = snapshots_keep; on = texts_go_on }
