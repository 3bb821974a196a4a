use Rattle.zcalls.proofs.Taking.{changes_take_one_zxid}
use Rattle.zcalls.proofs.laws.changes_take_one_zxid.Goals as goal

pub returns : goal.returns
returns c = changes_take_one_zxid
