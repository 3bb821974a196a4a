use Rattle.zpath.proofs.UniqueSpelling.{spells_one_path, is_faultless}
use Rattle.zpath.proofs.laws.spelling_is_unique.Goals as goal

pub returns-clause-one_path : goal.returns-clause-one_path
returns-clause-one_path c = spells_one_path

pub returns-clause-faultless : goal.returns-clause-faultless
returns-clause-faultless c = is_faultless
