use Rattle.zfront_laws.proofs.Sessions.{requests_are_for_their_session}
use Rattle.zfront_laws.proofs.laws.requests_are_for_their_session.Goals as goal

pub returns : goal.returns
returns c = requests_are_for_their_session
