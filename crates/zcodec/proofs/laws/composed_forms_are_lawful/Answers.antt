use Rattle.zcodec.proofs.Composed.{composed}
use Rattle.zcodec.proofs.laws.composed_forms_are_lawful.Goals as goal

pub returns : goal.returns
returns c = composed
