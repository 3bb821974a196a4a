use Rattle.zrequests.proofs.SessionCalls.{calls_are_for_their_session}
use Rattle.zrequests.proofs.laws.calls_are_for_their_session.Goals as goal

pub returns : goal.returns
returns c = calls_are_for_their_session
