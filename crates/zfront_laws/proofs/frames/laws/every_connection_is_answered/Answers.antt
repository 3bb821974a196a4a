use Rattle.zfront_laws.proofs.frames_lemmas.Inputs.{every_connection_is_answered}
use Rattle.zfront_laws.proofs.frames.laws.every_connection_is_answered.Goals as goal

pub returns : goal.returns
returns c = every_connection_is_answered
