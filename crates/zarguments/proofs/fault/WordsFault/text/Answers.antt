use Rattle.std.proofs.Common.{rules}
use Rattle.zarguments.proofs.fault.WordsFault.text.Goals as goal

pub returns-in-Memory : goal.returns-in-Memory
returns-in-Memory c = search rules
