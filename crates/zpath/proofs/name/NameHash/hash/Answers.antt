use Rattle.std.proofs.Common.{rules}
use Rattle.zpath.proofs.name.NameHash.hash.Goals as goal

pub returns : goal.returns
returns g c = search rules
