use Rattle.zfront_laws.proofs.Restored.{every_session_is_restored}
use Rattle.zfront_laws.proofs.laws.every_session_is_restored.Goals as goal

pub returns : goal.returns
returns c = every_session_is_restored
