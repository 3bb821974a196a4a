use Rattle.zcalls.proofs.Zxids.{zxids_rise}
use Rattle.zcalls.proofs.laws.zxids_rise.Goals as goal

pub returns : goal.returns
returns c = zxids_rise
