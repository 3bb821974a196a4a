use Rattle.std.proofs.Common.{rules}
use Rattle.zpath.proofs.name.Name.numbered.Goals as goal

pub returns : goal.returns
returns c = search rules
