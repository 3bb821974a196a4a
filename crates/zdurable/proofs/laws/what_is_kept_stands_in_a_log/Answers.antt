use Rattle.zdurable.proofs.Leading.{what_is_kept_stands_in_a_log}
use Rattle.zdurable.proofs.laws.what_is_kept_stands_in_a_log.Goals as goal

pub returns : goal.returns
returns c = what_is_kept_stands_in_a_log
