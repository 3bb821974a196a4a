use Rattle.zlinearizability.proofs.Runs.{committed_stays}
use Rattle.zlinearizability.proofs.facts.committed_stays.Goals as goal

pub returns : goal.returns
returns c = committed_stays
