use Rattle.std.proofs.Common.{rules}
use Rattle.zops.proofs.query.answer.Goals as goal

pub returns-in-GetChildren : goal.returns-in-GetChildren
returns-in-GetChildren c = search rules
