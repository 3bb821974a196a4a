use Rattle.std.proofs.Common.{rules}
use Rattle.zsessions.proofs.sessions.Sessions.new.Goals as goal

pub returns : goal.returns
returns c = search rules
