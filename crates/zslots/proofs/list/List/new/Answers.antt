use Rattle.std.proofs.Common.{rules}
use Rattle.zslots.proofs.list.List.new.Goals as goal

pub returns : goal.returns
returns g c = search rules
