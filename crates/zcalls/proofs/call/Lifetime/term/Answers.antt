use Rattle.std.proofs.Common.{rules}
use Rattle.zcalls.proofs.call.Lifetime.term.Goals as goal

pub returns-in-WithTtl : goal.returns-in-WithTtl
returns-in-WithTtl c = search rules
