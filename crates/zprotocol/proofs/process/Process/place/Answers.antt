use Rattle.std.proofs.Common.{rules}
use Rattle.zprotocol.proofs.process.Process.place.Goals as goal

pub returns-in-Client-clause-place : goal.returns-in-Client-clause-place
returns-in-Client-clause-place c = search rules
