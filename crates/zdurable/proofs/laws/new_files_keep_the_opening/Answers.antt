use Rattle.zdurable.proofs.Incarnations.{new_files_keep_the_opening}
use Rattle.zdurable.proofs.laws.new_files_keep_the_opening.Goals as goal

pub returns : goal.returns
returns c = new_files_keep_the_opening
