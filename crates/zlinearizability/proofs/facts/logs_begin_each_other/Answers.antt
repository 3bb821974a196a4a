use Rattle.zlinearizability.proofs.Tails.{logs_begin_each_other}
use Rattle.zlinearizability.proofs.facts.logs_begin_each_other.Goals as goal

pub returns : goal.returns
returns c = logs_begin_each_other
