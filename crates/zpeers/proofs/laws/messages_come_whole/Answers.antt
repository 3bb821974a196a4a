use Rattle.zpeers.proofs.Coming.{come_whole}
use Rattle.zpeers.proofs.Refusing.{none_refused}
use Rattle.zpeers.proofs.laws.messages_come_whole.Goals as goal

pub returns : goal.returns
returns c = record { whole = come_whole; refused = none_refused }
