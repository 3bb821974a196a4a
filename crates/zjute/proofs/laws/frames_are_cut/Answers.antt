use Rattle.zjute.proofs.Cutting.{next_again}
use Rattle.zjute.proofs.laws.frames_are_cut.Goals as goal

pub returns : goal.returns
returns c = next_again
