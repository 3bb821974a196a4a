use Rattle.zfront_laws.proofs.Sessions.{no_request_makes_no_call}
use Rattle.zfront_laws.proofs.laws.no_request_makes_no_call.Goals as goal

pub returns : goal.returns
returns c = no_request_makes_no_call
