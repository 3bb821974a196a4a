use Rattle.zcalls.proofs.Refused.{counts_the_names}
use Rattle.zcalls.proofs.laws.stat_counts_the_names.Goals as goal

pub returns : goal.returns
returns c = counts_the_names
