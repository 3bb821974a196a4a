use Rattle.zcalls.proofs.Mortals.{tick_takes_one_zxid}
use Rattle.zcalls.proofs.laws.a_tick_takes_one_zxid.Goals as goal

pub returns : goal.returns
returns c = tick_takes_one_zxid
