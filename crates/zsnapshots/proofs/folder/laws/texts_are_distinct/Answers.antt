use Rattle.zsnapshots.proofs.folder_lemmas.Apart.{are_distinct}
use Rattle.zsnapshots.proofs.folder.laws.texts_are_distinct.Goals as goal

pub returns : goal.returns
returns c = are_distinct
