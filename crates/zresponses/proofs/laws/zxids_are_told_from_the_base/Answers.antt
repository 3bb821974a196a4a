use Rattle.zresponses.proofs.Bases.{zxids_are_told_from_the_base}
use Rattle.zresponses.proofs.laws.zxids_are_told_from_the_base.Goals as goal

pub returns : goal.returns
returns c = zxids_are_told_from_the_base
