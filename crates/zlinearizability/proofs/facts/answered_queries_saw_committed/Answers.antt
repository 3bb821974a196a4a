use Rattle.zlinearizability.proofs.Reported.{answered_queries_saw_committed}
use Rattle.zlinearizability.proofs.facts.answered_queries_saw_committed.Goals as goal

pub returns : goal.returns
returns c = answered_queries_saw_committed
