use Rattle.std.proofs.Common.{rules}
use Rattle.ztree.proofs.zxid.Zxid.new.Goals as goal

pub returns : goal.returns
returns c = search rules
