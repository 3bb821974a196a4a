use Rattle.zfront_laws.proofs.Got.{every_session_is_got}
use Rattle.zfront_laws.proofs.laws.every_session_is_got.Goals as goal

pub returns : goal.returns
returns c = every_session_is_got
