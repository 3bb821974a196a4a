use Rattle.std.proofs.Common.{rules}
use Rattle.znodes.proofs.index.Index.new.Goals as goal

pub returns : goal.returns
returns c = search rules
