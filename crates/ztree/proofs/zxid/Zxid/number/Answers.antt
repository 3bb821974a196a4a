use Rattle.std.proofs.Common.{rules}
use Rattle.ztree.proofs.zxid.Zxid.number.Goals as goal

pub returns : goal.returns
returns c = search rules
