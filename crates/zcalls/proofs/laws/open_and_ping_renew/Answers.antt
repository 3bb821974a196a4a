use Rattle.zcalls.proofs.Sessions.{open_and_ping_renew}
use Rattle.zcalls.proofs.laws.open_and_ping_renew.Goals as goal

pub returns : goal.returns
returns c = open_and_ping_renew
