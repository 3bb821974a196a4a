use Rattle.zlinearizability.proofs.Reported.{answered_updates_are_committed}
use Rattle.zlinearizability.proofs.facts.answered_updates_are_committed.Goals as goal

pub returns : goal.returns
returns c = answered_updates_are_committed
