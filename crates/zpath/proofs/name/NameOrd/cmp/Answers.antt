use Rattle.std.proofs.Common.{rules}
use Rattle.zpath.proofs.name.NameOrd.cmp.Goals as goal

pub returns : goal.returns
returns c = search rules
