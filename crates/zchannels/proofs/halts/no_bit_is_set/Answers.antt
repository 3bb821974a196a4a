use Rattle.zchannels.proofs.Stays.{none_is_set}
use Rattle.zchannels.proofs.halts.no_bit_is_set.Goals as goal

pub returns : goal.returns
returns c = none_is_set
