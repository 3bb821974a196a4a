use Rattle.zcalls.proofs.Living.{lives_its_timeout}
use Rattle.zcalls.proofs.laws.sessions_live_their_timeout.Goals as goal

pub returns : goal.returns
returns c = lives_its_timeout
