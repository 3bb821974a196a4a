use Rattle.zcalls.proofs.Sessions.{ends_only_so}
use Rattle.zcalls.proofs.laws.sessions_end_only_so.Goals as goal

pub returns : goal.returns
returns c = ends_only_so
