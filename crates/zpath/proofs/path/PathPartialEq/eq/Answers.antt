use Rattle.std.proofs.Common.{rules}
use Rattle.zpath.proofs.path.PathPartialEq.eq.Goals as goal

pub returns : goal.returns
returns c = search rules
