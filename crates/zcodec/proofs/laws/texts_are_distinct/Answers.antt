use Rattle.zcodec.proofs.Composed.{texts_apart}
use Rattle.zcodec.proofs.laws.texts_are_distinct.Goals as goal

pub returns : goal.returns
returns c = texts_apart
