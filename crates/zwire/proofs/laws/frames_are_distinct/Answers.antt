use Rattle.zwire.proofs.Frames.{distinct}
use Rattle.zwire.proofs.laws.frames_are_distinct.Goals as goal

pub returns : goal.returns
returns c = distinct
