use Rattle.std.proofs.Common.{rules}
use Rattle.zslots.proofs.list.List.len.Goals as goal

pub returns : goal.returns
returns g c = search rules
