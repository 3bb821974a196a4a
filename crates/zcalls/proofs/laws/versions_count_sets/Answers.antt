use Rattle.zcalls.proofs.Versions.{version_counts_sets}
use Rattle.zcalls.proofs.laws.versions_count_sets.Goals as goal

pub returns : goal.returns
returns c = version_counts_sets
