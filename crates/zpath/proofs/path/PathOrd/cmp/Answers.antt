use Rattle.std.proofs.Common.{rules}
use Rattle.zpath.proofs.path.PathOrd.cmp.Goals as goal

pub returns : goal.returns
returns c = search rules
