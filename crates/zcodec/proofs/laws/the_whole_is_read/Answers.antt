use Rattle.zcodec.proofs.Composed.{whole_spelled, spelled_whole}
use Rattle.zcodec.proofs.laws.the_whole_is_read.Goals as goal

pub returns : goal.returns
returns c = record { spelled = whole_spelled; again = spelled_whole }
